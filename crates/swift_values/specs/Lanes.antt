-- Thirty-two bytes at once.
use Rattle.std.specs.Prelude.{ℕ, ◌+◌, ◌<◌, ◌≡◌, Bool, true, not, ◌&&◌, ◌||◌, List, get_or, eqb}
use Rattle.text.specs.Classes.{reference_set, text_set, capital_or_digit}

-- a byte of a reference, with the byte behind it: no slash before a slash or before the end of the value
abbrev pub ref_pair : ℕ → ℕ → Bool
ref_pair b c = reference_set b && not (eqb b 47 && (eqb c 47 || eqb c 60))

-- a byte of a reference that is no slash, whatever stands behind it
abbrev pub slashless : ℕ → ℕ → Bool
slashless b c = reference_set b && not (eqb b 47)

-- a byte of a text, whatever stands behind it
abbrev pub text_one : ℕ → ℕ → Bool
text_one b c = text_set b

-- one of the reference set, and a capital or a digit, likewise
abbrev pub ref_one : ℕ → ℕ → Bool
ref_one b c = reference_set b

abbrev pub cap_one : ℕ → ℕ → Bool
cap_one b c = capital_or_digit b

-- the first r bytes from p on pass, each with the byte behind it
pub record Run (f : ℕ → ℕ → Bool) (s : List ℕ) (p r : ℕ) : Type 0 where
  pub each : (j : ℕ) → j < r → f (get_or s (p + j) 0) (get_or s (p + j + 1) 0) ≡ true

-- the first r bytes from p on may be told to pass, each with the byte behind it
pub record Passed (P : ℕ → ℕ → Bool → Type 0) (s : List ℕ) (p r : ℕ) : Type 0 where
  pub each : (j : ℕ) → j < r → P (get_or s (p + j) 0) (get_or s (p + j + 1) 0) true
