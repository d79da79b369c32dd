-- "Leading zeros change nothing." With one more zero in front, as long as both are of the form, an amount and a count are answered alike.
use mathlib.Core.Path.{◌≡◌, refl}
use mathlib.Core.Bool.{true}
use mathlib.Core.List.{List, ◌∷◌}
use Prim.Native.Nat.{ℕ}
use Rattle.text.specs.Quoted.{byte, among, decimal}
use Rattle.text.specs.Classes.{digit}
use Rattle.money.specs.Count.{count_form, count_given}
use Rattle.money.specs.Amount.{amount_form, cents, amount_given}
use Rattle.money.specs.declared.Range.{Range}

number_zero : (s : List ℕ) → decimal (byte "0" ∷ s) ≡ decimal s
unfolding decimal
number_zero s = refl

cents_zero : (s : List ℕ) → cents (byte "0" ∷ s) ≡ cents s
unfolding cents decimal digit among
cents_zero s = refl

pub count_zero : (s : List ℕ) → count_form s ≡ true → count_form (byte "0" ∷ s) ≡ true → count_given (byte "0" ∷ s) ≡ count_given s
unfolding count_given
count_zero s f g = rw (f, g, number_zero s)

pub amount_zero : (k : Range) (s : List ℕ) → amount_form s ≡ true → amount_form (byte "0" ∷ s) ≡ true → amount_given k (byte "0" ∷ s) ≡ amount_given k s
unfolding amount_given
amount_zero k s f g = rw (f, g, cents_zero s)
