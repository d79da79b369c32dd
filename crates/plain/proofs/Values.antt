-- A value as it is spelled: how long it is, and how it is laid.
use mathlib.Core.Path.{◌≡◌, sym, ap, ◌∙◌}
use mathlib.Core.List.{List, ◌∷◌, ◌++◌}
use Prim.Native.Nat.{ℕ, ◌+◌, ◌-◌, ◌≤◌}
use native.Mathlib.Omega.{arith}
use lib.ListN.{length, take, drop, length-append, length-drop}
use Rattle.text.specs.Truth.{lead}
use Rattle.text.specs.Quoted.{byte}
use Rattle.text.specs.declared.Class.TheVariants.{Digit}
use Rattle.text.specs.Classes.{digit, in_class}
use Rattle.text.proofs.Scan.{lead_le, rest_of}
use Rattle.money.specs.Amount.{euros, as_two_digits}
use Rattle.money.specs.Plain.{without_zeros, plain_amount}
use Rattle.money.proofs.Plain.{two_long}

-- ---- a count
module _ (v : List ℕ) (z : ℕ) (e : without_zeros v ≡ drop z v) where
  pub number_long : length v - z ≡ length (without_zeros v)
  number_long = rw e (sym (length-drop z v))

-- ---- an amount: w is its first digits, of which z zeros are needless, and b what stands behind them
module _ (v : List ℕ) (n : ℕ) (is-n : n ≡ lead (in_class Digit) v) where
  digits_are : n ≡ lead digit v
  unfolding in_class
  digits_are = is-n

  pub digits_fit : n ≤ length v
  digits_fit = rw digits_are (lead_le digit v)

  pub amount_is : (w b : List ℕ) → w ≡ take n v → b ≡ drop n v → (z : ℕ) → without_zeros w ≡ drop z w
      → plain_amount v ≡ take (length w - z) (drop z w) ++ (byte "." ∷ as_two_digits (drop 1 b))
  unfolding plain_amount
  amount_is w b f g z e =
      let i : without_zeros (euros v) ≡ take (length w - z) (drop z w) = rw (rest_of z w, ← e, f, digits_are) in
      rw (i, g, digits_are)

-- how long it is then: d is its first digits without the needless zeros
pub amount_long : (a d f : List ℕ) → a ≡ d ++ (byte "." ∷ as_two_digits f) → length a ≡ length d + 3
amount_long a d f e = ap length e ∙ length-append d (byte "." ∷ as_two_digits f) ∙ omega (arith, two_long f)
