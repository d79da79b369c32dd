-- What the amount's checker answers.
use mathlib.Core.Path.{◌≡◌, refl}
use mathlib.Core.Bool.{Bool, true, false}
use mathlib.Core.List.{List, [], ◌∷◌}
use Prim.Native.Nat.{ℕ, ◌+◌, ◌*◌, ◌≤◌}
use native.Mathlib.Omega.{arith}
use lib.ListN.{length, take, drop}
use Rattle.text.specs.Truth.{every, lead, all_of, between}
use Rattle.text.specs.Quoted.{decimal}
use Rattle.text.specs.Classes.{digit}
use Rattle.text.proofs.Truths.{between_true, passes}
use Rattle.text.proofs.Scan.{lead_every}
use Rattle.answers.specs.Given.{worth, value_of, in_order, ◌else◌}
use Rattle.money.specs.Amount.{as_two_digits, amount_form, cents, most, amount_given}
use Rattle.money.specs.declared.Range.{Range}
use Rattle.money.proofs.Fractions.{fractional}

-- e holds the n digits that stand first, and r what stands behind them, as the code parts them
module _ (s e r : List ℕ) (n : ℕ) (h : n ≡ lead digit s) (he : e ≡ take n s) (hr : r ≡ drop n s) where
  pub first_digits : every digit e ≡ true
  first_digits = rw (he, h) (lead_every digit s)

  pub form_is : amount_form s ≡ all_of (between 1 15 (length e) ∷ fractional r ∷ [])
  unfolding amount_form
  form_is = rw (he, hr, h)

  -- the two numbers make the cents
  pub cents_is : (v f : ℕ) → v ≡ decimal e → f ≡ decimal (as_two_digits (drop 1 r)) → v * 100 + f ≡ cents s
  unfolding cents
  cents_is v f hv hf = rw (hv, hf, he, hr, h)

-- what an amount's form tells, parted so
pub record Parts (e r : List ℕ) : Type 0 where
  pub short : length e ≤ 15
  pub fraction : fractional r ≡ true

pub parts : (e r : List ℕ) → all_of (between 1 15 (length e) ∷ fractional r ∷ []) ≡ true → Parts e r
parts e r h = record { short = (between_true 1 15 (length e) (passes _ h 0)).1; fraction = passes _ h 1 }

-- whatever is given, its cents are within the range
pub amount_most : (k : Range) (s : List ℕ) → value_of (amount_given k s) ≤ most k
unfolding amount_given
amount_most k s = go (amount_form s) (between 1 (most k) (cents s)) refl
  where
    go : (a b : Bool) → between 1 (most k) (cents s) ≡ b → value_of (in_order (a else 7 ∷ b else 9 ∷ []) (worth (cents s))) ≤ most k
    go true true e = (between_true 1 (most k) (cents s) e).1
    go true false e = omega arith
    go false b e = omega arith
