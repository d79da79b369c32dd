-- Bytes of one class, and the number that characters write.
use Rattle.std.specs.Prelude.{ℕ, zero, suc, ◌+◌, ◌*◌, ◌-◌, ◌%◌, ◌≤◌, ◌<◌, ◌≡◌, Bool, true, List, [], ◌∷◌, leb, get_or}
use Rattle.text.specs.Truth.{part, between}
use Rattle.text.specs.Quoted.{followed_by, decimal}
use Rattle.text.specs.Classes.{reference_set, digit, capital, capital_or_digit, letter_or_digit}
use Rattle.check97.specs.Check.{spelled}
use Rattle.accounts.specs.Lengths.{length_of}

-- the n bytes from p on pass
pub record All (f : ℕ → Bool) (s : List ℕ) (p n : ℕ) : Type 0 where
  pub each : (j : ℕ) → j < n → f (get_or s (p + j) 0) ≡ true

-- the same, by a test of each place
pub record AllAt (f : ℕ → ℕ → Bool) (s : List ℕ) (p n : ℕ) : Type 0 where
  pub each : (j : ℕ) → j < n → f j (get_or s (p + j) 0) ≡ true

-- the n bytes from p on may be told to pass, each by a test of its place
pub record AllPassed (P : ℕ → ℕ → Bool → Type 0) (s : List ℕ) (p n : ℕ) : Type 0 where
  pub each : (j : ℕ) → j < n → P j (get_or s (p + j) 0) true

-- a weight that a remainder by 97 may be
abbrev pub light : ℕ → Bool
light k = leb k 96

-- the first n bytes from p on, each times its weight
abbrev pub balance : List ℕ → ℕ → List ℕ → ℕ → ℕ
balance s p w zero = 0
balance s p w (suc n) = balance s p w n + get_or s (p + n) 0 * get_or w n 0

-- n with the characters of s written behind it
abbrev pub number : ℕ → List ℕ → ℕ
number n s = followed_by n (spelled s)

-- two capitals, two digits
pub record Headed (s : List ℕ) (p : ℕ) : Type 0 where
  pub first : capital (get_or s p 0) ≡ true
  pub second : capital (get_or s (p + 1) 0) ≡ true
  pub third : digit (get_or s (p + 2) 0) ≡ true
  pub fourth : digit (get_or s (p + 3) 0) ≡ true

-- the n characters from p on are an IBAN but for its length
pub record Checked (s : List ℕ) (p n : ℕ) : Type 0 where
  pub head : Headed s p
  pub caps : All capital_or_digit s p n
  pub range : between 2 98 (decimal (get_or s (p + 2) 0 ∷ get_or s (p + 3) 0 ∷ [])) ≡ true
  pub leaves : number (number 0 (part (p + 4) (n - 4) s)) (part p 4 s) % 97 ≡ 1

-- the 7 + k characters from p on are a creditor identifier, with a letter or a digit at the eighth place
pub record Identified (s : List ℕ) (p k : ℕ) : Type 0 where
  pub head : Headed s p
  pub business : All letter_or_digit s (p + 4) 3
  pub set : All reference_set s (p + 7) k
  pub first : letter_or_digit (get_or s (p + 7) 0) ≡ true
  pub range : between 2 98 (decimal (get_or s (p + 2) 0 ∷ get_or s (p + 3) 0 ∷ [])) ≡ true
  pub leaves : number (number 0 (part (p + 7) k s)) (part p 4 s) % 97 ≡ 1

-- an IBAN whose country has these two letters is n characters long
pub record Long (c : List ℕ) (n : ℕ) : Type 0 where
  pub is : length_of c ≡ n
  pub least : 15 ≤ n
  pub most : n ≤ 34
