-- Digits: the number that they write, one part behind another.
use mathlib.Core.Path.{◌≡◌, refl, ap, ◌∙◌}
use mathlib.Core.Bool.{Bool, true, false}
use mathlib.Core.List.{List, [], ◌∷◌}
use Prim.Native.Nat.{ℕ, ◌+◌, ◌-◌, ◌*◌, ◌≤◌, ◌<◌}
use native.Mathlib.Omega.{arith}
use native.Mathlib.Nat.{add-zero}
use lib.ListN.{length, get_or}
use Rattle.text.specs.Truth.{part, every, both}
use Rattle.text.specs.Quoted.{followed_by}
use Rattle.text.specs.Classes.{digit}
use Rattle.text.proofs.Decimal.{followed_append}
use Rattle.check97.specs.Check.{spelled}
use Rattle.check97.proofs.Spelled.{spell_digit}
use Rattle.swift_values.specs.Blocks.{All, number}
use Rattle.swift_values.proofs.Parts.{part_listed, part_two, every_part}

-- digits stay as they are
pub digits_spelled : (s : List ℕ) → every digit s ≡ true → spelled s ≡ s
digits_spelled [] e = refl
digits_spelled (c ∷ s) e =
    let h = split (digit c) e in
    rw (spell_digit c h.0, digits_spelled s h.1) refl
  where
    split : (b : Bool) → both b (every digit s) ≡ true → (b ≡ true) × (every digit s ≡ true)
    split true x = (refl, x)
    split false x = (x, (cc))

-- ---- one part behind another
module _ (m : List ℕ) (p t : ℕ) where
  pub followed_part : (i j : ℕ) → followed_by t (part p (i + j) m) ≡ followed_by (followed_by t (part p i m)) (part (p + i) j m)
  followed_part i j = ap (followed_by t) (part_two m p i j) ∙ followed_append t (part p i m) (part (p + i) j m)

  pub followed_more : (k : ℕ) → p + k < length m → followed_by t (part p (k + 1) m) ≡ followed_by t (part p k m) * 10 + (get_or m (p + k) 0 - 48)
  followed_more k h =
      followed_part k 1
      ∙ ap (followed_by (followed_by t (part p k m))) (part_listed m (p + k) 1 (omega arith) ∙ ap (λ (x : ℕ). get_or m x 0 ∷ []) (add-zero (p + k)))

  pub digits_number : (k : ℕ) → p + k ≤ length m → All digit m p k → number t (part p k m) ≡ followed_by t (part p k m)
  digits_number k fits a = ap (followed_by t) (digits_spelled (part p k m) (every_part m p k fits digit a))
