-- An amount by its digits: the number that they write, and the cents behind the point.
use mathlib.Core.Path.{◌≡◌, refl, sym, ap, ◌∙◌}
use mathlib.Core.Bool.{Bool, true, false}
use mathlib.Core.List.{List, [], ◌∷◌, ◌++◌, append-nil}
use Prim.Native.Nat.{ℕ, ◌+◌, ◌-◌, ◌*◌, ◌≤◌, ◌<◌}
use native.Mathlib.Omega.{arith}
use native.Mathlib.Nat.{add-zero}
use native.Mathlib.Decide.{dec_lt}
use borrow.Author.Tests.{eqb-true}
use lib.ListN.{length, take, drop, get_or}
use lib.Seq.{take_at, drop_at}
use Rattle.text.specs.Truth.{part, every, lead, either}
use Rattle.text.specs.Quoted.{is, decimal, followed_by}
use Rattle.text.specs.Classes.{digit}
use Rattle.text.proofs.Truths.{between_of, pass, done}
use Rattle.text.proofs.Scan.{lead_before, every_lead, every_also, every_append}
use Rattle.text.proofs.Digits.{digit_bounds, digit_range}
use Rattle.text.proofs.Decimal.{decimal_followed, decimal_below}
use Rattle.answers.specs.Given.{worth}
use Rattle.money.specs.declared.Range.TheVariants.{Item}
use Rattle.money.specs.Amount.{point_form, amount_form, as_two_digits, cents, most, amount_given}
use Rattle.profile.specs.declared.Kind.TheVariants.{Amount}
use Rattle.tags.specs.Values.{in_value}
use Rattle.swift_values.specs.Stands.{StandsFor}
use Rattle.swift_values.specs.Blocks.{All}
use Rattle.swift_values.specs.Dates.{pair_at}
use Rattle.swift_values.specs.Amounts.{Written, Cents}
use Rattle.swift_values.proofs.Blocks.{part_size}
use Rattle.swift_values.proofs.Rests.{followed_more}
use Rattle.swift_values.proofs.Parts.{part_listed, part_two, every_part, all_at, digit_in, stands_part}

-- ---- digit by digit
all_next : (f : ℕ → Bool) (s : List ℕ) (p k : ℕ) → All f s p k → f (get_or s (p + k) 0) ≡ true → All f s p (k + 1)
all_next f s p k a e = record { each = go }
  where
    go : (j : ℕ) → j < k + 1 → f (get_or s (p + j) 0) ≡ true
    go j l =
        elim (dec_lt j k) [
          | yes h ↦ a.each j h
          | no h ↦ let z : j ≡ k = omega arith in ap (λ (x : ℕ). f (get_or s (p + x) 0)) z ∙ e
        ]

pub written_none : (s : List ℕ) (p : ℕ) → Written s p 0 0
written_none s p = record { digits = record { each = λ j h. absurd (let z : ⊥ = omega arith in z) }; number = refl }

pub written_more : (s : List ℕ) (p k n : ℕ) → p + k < length s → Written s p k n → digit (get_or s (p + k) 0) ≡ true → Written s p (k + 1) (n * 10 + (get_or s (p + k) 0 - 48))
written_more s p k n h w e = record { digits = all_next digit s p k w.digits e; number = number }
  where
    number : n * 10 + (get_or s (p + k) 0 - 48) ≡ followed_by 0 (part p (k + 1) s)
    number = ap (λ (x : ℕ). x * 10 + (get_or s (p + k) 0 - 48)) w.number ∙ sym (followed_more s p 0 k h)

pub written_under : (s : List ℕ) (p k n : ℕ) → k ≤ 9 → p + k ≤ length s → Written s p k n → n ≤ 999999999
written_under s p k n h f w =
    let x : decimal (part p k s) < 1000000000 = decimal_below 9 (part p k s) (omega (arith, part_size s p k f)) (every_part s p k f digit w.digits) in
    omega (arith, x, w.number, decimal_followed (part p k s))

-- ---- the amount
module _ (w t : List ℕ) (x : ℕ) (stop : lead digit (w ++ t) ≡ length w) (low : 1 ≤ length w) (high : length w ≤ 9) (form : either (is "" t) (point_form t) ≡ true) where
  euros-are : take (lead digit (w ++ t)) (w ++ t) ≡ w
  euros-are = take_at w t (lead digit (w ++ t)) (sym stop)

  behind_is : drop (lead digit (w ++ t)) (w ++ t) ≡ t
  behind_is = drop_at w t (lead digit (w ++ t)) (sym stop)

  form-is : amount_form (w ++ t) ≡ true
  unfolding amount_form
  form-is = pass _ _ _ (rw euros-are (between_of 1 15 (length w) low (omega arith))) (pass _ _ _ (rw behind_is form) done)

  cents-are : cents (w ++ t) ≡ decimal w * 100 + decimal (as_two_digits (drop 1 t))
  unfolding cents
  cents-are = rw (euros-are, behind_is) refl

  amount-given : x ≡ decimal w * 100 + decimal (as_two_digits (drop 1 t)) → 1 ≤ x → x ≤ most Item → amount_given Item (w ++ t) ≡ worth x
  unfolding amount_given
  amount-given e lo hi = rw (form-is, cents-are, ← e, between_of 1 99999999999 x lo hi) refl

no_cents : decimal (as_two_digits (drop 1 [])) ≡ 0
unfolding decimal
no_cents = refl

module _ (a b : ℕ) (da : digit a ≡ true) (db : digit b ≡ true) where
  cents-of : decimal (as_two_digits (drop 1 (46 ∷ a ∷ b ∷ []))) ≡ a * 10 + b - 528
  unfolding decimal
  cents-of = omega (arith, digit_bounds a da, digit_bounds b db)

  point-of : point_form (46 ∷ a ∷ b ∷ []) ≡ true
  unfolding point_form
  point-of = pass _ _ _ refl (pass _ _ _ refl (pass _ _ _ (rw (da, db) refl) done))

no_digit : digit 46 ≡ false
no_digit = digit_range 46

module _ (m : List ℕ) (p k n : ℕ) (begun : 0 < p) (some : 0 < k) (few : k ≤ 9) (fits : p + k + 4 ≤ length m) (w : Written m p k n) where
  digits_are : every digit (part p k m) ≡ true
  digits_are = every_part m p k (omega arith) digit w.digits

  long : length (part p k m) ≡ k
  long = part_size m p k (omega arith)

  digits_in : every in_value (part p k m) ≡ true
  digits_in = every_also digit in_value digit_in (part p k m) digits_are

  number_is : decimal (part p k m) ≡ n
  number_is = decimal_followed (part p k m) ∙ sym w.number

  pub whole_stands : get_or m (p + k) 0 ≡ 60 → 1 ≤ n → StandsFor Amount (worth (n * 100)) m p (p + k)
  whole_stands h lo = stands_part Amount (worth (n * 100)) m p k begun (omega arith) digits_in h (ap (amount_given Item) (sym (append-nil (part p k m))) ∙ given)
    where
      stop : lead digit (part p k m ++ []) ≡ length (part p k m)
      stop = ap (lead digit) (append-nil (part p k m)) ∙ eqb-true (lead digit (part p k m)) (length (part p k m)) (every_lead digit (part p k m) ∙ digits_are)

      given : amount_given Item (part p k m ++ []) ≡ worth (n * 100)
      given =
          amount-given (part p k m) [] (n * 100) stop (omega (arith, long)) (omega (arith, long)) refl
          (omega (arith, number_is, no_cents)) (omega arith) (omega (arith, written_under m p k n few (omega arith) w))

  pub cents_low : Cents m (p + k) → (528 ≤ pair_at m (p + k + 1)) × (pair_at m (p + k + 1) ≤ 627)
  cents_low c =
      let a = digit_bounds (get_or m (p + k + 1) 0) (all_at digit m (p + k + 1) 2 0 (p + k + 1) c.digits (omega arith) (omega arith)) in
      let b = digit_bounds (get_or m (p + k + 1 + 1) 0) (c.digits.each 1 (omega arith)) in
      (omega arith, omega arith)

  pub cents_stand : Cents m (p + k) → (x : ℕ) → x ≡ n * 100 + pair_at m (p + k + 1) - 528 → 1 ≤ x → StandsFor Amount (worth x) m p (p + k + 3)
  cents_stand c x e lo =
      let z : p + (k + 3) ≡ p + k + 3 = omega arith in
      rw z at (stands_part Amount (worth x) m p (k + 3) begun (omega arith) (rw parts value) (rw z c.behind) (rw parts given))
    where
      a : ℕ
      a = get_or m (p + k + 1) 0

      b : ℕ
      b = get_or m (p + k + 2) 0

      da : digit (get_or m (p + k + 1) 0) ≡ true
      da = all_at digit m (p + k + 1) 2 0 (p + k + 1) c.digits (omega arith) (omega arith)

      db : digit (get_or m (p + k + 2) 0) ≡ true
      db = all_at digit m (p + k + 1) 2 1 (p + k + 2) c.digits (omega arith) (omega arith)

      three : part (p + k) 3 m ≡ 46 ∷ get_or m (p + k + 1) 0 ∷ get_or m (p + k + 2) 0 ∷ []
      three = part_listed m (p + k) 3 (omega arith) ∙ ap (λ (y : ℕ). y ∷ get_or m (p + k + 1) 0 ∷ get_or m (p + k + 2) 0 ∷ []) (ap (λ (y : ℕ). get_or m y 0) (add-zero (p + k)) ∙ c.point)

      parts : part p (k + 3) m ≡ part p k m ++ (46 ∷ get_or m (p + k + 1) 0 ∷ get_or m (p + k + 2) 0 ∷ [])
      parts = part_two m p k 3 ∙ ap (λ (l : List ℕ). part p k m ++ l) three

      value : every in_value (part p k m ++ (46 ∷ a ∷ b ∷ [])) ≡ true
      value = every_append in_value (part p k m) (46 ∷ a ∷ b ∷ []) digits_in (rw (digit_in a da, digit_in b db) refl)

      pair : pair_at m (p + k + 1) ≡ a * 10 + b
      pair = let y : p + k + 1 + 1 ≡ p + k + 2 = omega arith in ap (λ (i : ℕ). get_or m (p + k + 1) 0 * 10 + get_or m i 0) y

      stop : lead digit (part p k m ++ (46 ∷ a ∷ b ∷ [])) ≡ length (part p k m)
      stop = lead_before digit (part p k m) 46 (a ∷ b ∷ []) digits_are no_digit

      worth-is : x ≡ decimal (part p k m) * 100 + decimal (as_two_digits (drop 1 (46 ∷ a ∷ b ∷ [])))
      worth-is = omega (arith, e, number_is, cents-of a b da db, pair, digit_bounds a da, digit_bounds b db)

      given : amount_given Item (part p k m ++ (46 ∷ a ∷ b ∷ [])) ≡ worth x
      given =
          amount-given (part p k m) (46 ∷ a ∷ b ∷ []) x stop (omega (arith, long)) (omega (arith, long)) (point-of a b da db)
          worth-is lo (omega (arith, e, cents_low c, written_under m p k n few (omega arith) w))
