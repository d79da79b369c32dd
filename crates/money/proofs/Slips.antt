-- One digit replaced by another, or two unequal neighbouring digits exchanged: a count and an amount keep their form, and their number and cents change.
use mathlib.Core.Path.{◌≡◌, refl, sym, ◌∙◌}
use mathlib.Core.Bool.{true, false}
use mathlib.Core.Logic.{◌≢◌}
use mathlib.Core.List.{List, [], ◌∷◌, ◌++◌}
use Prim.Native.Nat.{ℕ, ◌-◌, ◌*◌, ◌^◌, ◌≤◌}
use native.Mathlib.Omega.{arith}
use native.Mathlib.Nat.{eq_of_mul-eq-mul_right, pow-le-pow_right}
use lib.ListN.{length, drop}
use Rattle.text.specs.Truth.{only}
use Rattle.text.specs.Quoted.{byte, among, decimal}
use Rattle.text.specs.Classes.{digit}
use Rattle.text.proofs.Truths.{passes}
use Rattle.text.proofs.Scan.{only_append, only_all, only_lead}
use Rattle.text.proofs.Decimal.{number_replaced, number_exchanged}
use Rattle.text.proofs.Blur.{blurred, replaced_blurred, exchanged_blurred}
use Rattle.money.specs.Count.{count_form}
use Rattle.money.specs.Amount.{euros, behind_euros, amount_form, cents}
use Rattle.money.proofs.Fractions.{fractional, point, joined}
use Rattle.money.proofs.Blur.{places, same_count_form, same_amount_form, same_places}

-- ---- an amount's cents are the number of its digits, and zeros for the places that it leaves out
point_no_digit : digit (byte ".") ≡ false
unfolding digit among
point_no_digit = refl

-- behind the whole digits
record Behind (r : List ℕ) : Type 0 where
  digits : only digit r ≡ drop 1 r
  short : length (drop 1 r) ≤ 2

behind_is : (r : List ℕ) → fractional r ≡ true → Behind r
behind_is [] e = record { digits = refl; short = omega arith }
behind_is (c ∷ t) e =
    let h = point (c ∷ t) e in
    record { digits = rw (h.start, point_no_digit) (only_all digit digit (λ x k. k) t h.digits); short = h.high }

cents_digits : (s : List ℕ) → amount_form s ≡ true → cents s ≡ decimal (only digit s) * 10 ^ (2 - places s)
unfolding cents amount_form
cents_digits s e =
    let b = behind_is (behind_euros s) (passes _ e 1) in
    rw (only_lead digit s, b.digits) (joined (euros s) (drop 1 (behind_euros s)) b.short)

same_tens : (k x y : ℕ) → x * 10 ^ k ≡ y * 10 ^ k → x ≡ y
same_tens k x y = eq_of_mul-eq-mul_right (10 ^ k) (pow-le-pow_right {n = 10} (omega arith) {i = 0} {j = k} (omega arith)) x y

-- ---- a slip keeps the places of the digits, and changes the number that they write
record Slip (s t : List ℕ) : Type 0 where
  places_same : blurred s ≡ blurred t
  number-other : decimal s ≢ decimal t
  digits-other : decimal (only digit s) ≢ decimal (only digit t)

count_slip : (s t : List ℕ) → Slip s t → count_form s ≡ true → (count_form t ≡ true) × (decimal s ≢ decimal t)
count_slip s t l form = (sym (same_count_form s t l.places_same) ∙ form, l.number-other)

amount_slip : (s t : List ℕ) → Slip s t → amount_form s ≡ true → (amount_form t ≡ true) × (cents s ≢ cents t)
amount_slip s t l form =
    let kept = sym (same_amount_form s t l.places_same) ∙ form in
    let of-t = rw (sym (same_places s t l.places_same)) at (cents_digits t kept) in
    (kept, λ e. l.digits-other (same_tens (2 - places s) _ _ (sym (cents_digits s form) ∙ e ∙ of-t)))

module _ (p q : List ℕ) (a b : ℕ) (ha : digit a ≡ true) (hb : digit b ≡ true) (ne : a ≢ b) where
  replaced : Slip (p ++ (a ∷ q)) (p ++ (b ∷ q))
  replaced = record {
    places_same = replaced_blurred p q a b ha hb;
    number-other = number_replaced p q a b ha hb ne;
    digits-other = simp (only_append, ha, hb) (number_replaced (only digit p) (only digit q) a b ha hb ne);
  }

  exchanged : Slip (p ++ (a ∷ b ∷ q)) (p ++ (b ∷ a ∷ q))
  exchanged = record {
    places_same = exchanged_blurred p q a b ha hb;
    number-other = number_exchanged p q a b ha hb ne;
    digits-other = simp (only_append, ha, hb) (number_exchanged (only digit p) (only digit q) a b ha hb ne);
  }

  pub count_replaced : count_form (p ++ (a ∷ q)) ≡ true → (count_form (p ++ (b ∷ q)) ≡ true) × (decimal (p ++ (a ∷ q)) ≢ decimal (p ++ (b ∷ q)))
  count_replaced = count_slip _ _ replaced

  pub count_exchanged : count_form (p ++ (a ∷ b ∷ q)) ≡ true → (count_form (p ++ (b ∷ a ∷ q)) ≡ true) × (decimal (p ++ (a ∷ b ∷ q)) ≢ decimal (p ++ (b ∷ a ∷ q)))
  count_exchanged = count_slip _ _ exchanged

  pub amount_replaced : amount_form (p ++ (a ∷ q)) ≡ true → (amount_form (p ++ (b ∷ q)) ≡ true) × (cents (p ++ (a ∷ q)) ≢ cents (p ++ (b ∷ q)))
  amount_replaced = amount_slip _ _ replaced

  pub amount_exchanged : amount_form (p ++ (a ∷ b ∷ q)) ≡ true → (amount_form (p ++ (b ∷ a ∷ q)) ≡ true) × (cents (p ++ (a ∷ b ∷ q)) ≢ cents (p ++ (b ∷ a ∷ q)))
  amount_exchanged = amount_slip _ _ exchanged
