-- A date by its bytes: digits and hyphens, and a day that the month has in any year.
use mathlib.Core.Path.{◌≡◌, refl, sym, ap, ◌∙◌}
use mathlib.Core.Bool.{Bool, true, false, ◌&&◌}
use mathlib.Core.List.{List, [], ◌∷◌}
use Prim.Native.Nat.{ℕ, zero, suc, ◌+◌, ◌-◌, ◌*◌, ◌≤◌, ◌<◌}
use native.Mathlib.Omega.{arith}
use native.Mathlib.Nat.{add-zero}
use borrow.Author.Tests.{eqb-true, leb-true, ne_eqb}
use lib.Dec.{eqb, leb}
use lib.ListN.{length, get_or}
use Rattle.text.specs.Truth.{both, part, every, pick, some, between}
use Rattle.text.specs.Quoted.{decimal, among}
use Rattle.text.specs.Classes.{digit}
use Rattle.text.proofs.Truths.{between_of, pass, done}
use Rattle.text.proofs.Digits.{digit_bounds}
use Rattle.answers.specs.Given.{yes}
use Rattle.calendar.specs.Pattern.{letter, stands, written}
use Rattle.calendar.specs.Date.{leap, days_in, real_day, date_form, date_given}
use Rattle.profile.specs.declared.Kind.TheVariants.{Plain}
use Rattle.profile.specs.declared.Simple.TheVariants.{Date}
use Rattle.tags.specs.Values.{in_value}
use Rattle.kinds.specs.Given.{simple_given}
use Rattle.swift_values.specs.Stands.{Stands}
use Rattle.swift_values.specs.Blocks.{All}
use Rattle.swift_values.specs.Dates.{pair_at, Dated, RealDay}
use Rattle.swift_values.proofs.Lanes.{and_split}
use Rattle.swift_values.proofs.Parts.{part_listed, all_at, digit_in, stands_part}

-- ---- what the code tells
pub two_digits_lem : (s : List ℕ) (p : ℕ) (a b : Bool) → a ≡ digit (get_or s p 0) → b ≡ digit (get_or s (p + 1) 0) → (a && b) ≡ true → All digit s p 2
two_digits_lem s p a b ea eb h = record { each = each }
  where
    x : (a ≡ true) × (b ≡ true)
    x = and_split a b h

    each : (j : ℕ) → j < 2 → digit (get_or s (p + j) 0) ≡ true
    each zero l = ap (λ (k : ℕ). digit (get_or s k 0)) (add-zero p) ∙ sym ea ∙ x.0
    each (suc zero) l = sym eb ∙ x.1
    each (suc (suc j)) l = absurd (let z : ⊥ = omega arith in z)

module _ (s : List ℕ) (p : ℕ) where
  pub dated : (a b c d : Bool) → (a ≡ true → All digit s p 2) → (b ≡ true → All digit s (p + 2) 2) → (c ≡ true → All digit s (p + 5) 2) → (d ≡ true → All digit s (p + 8) 2)
      → (((((a && b) && eqb (get_or s (p + 4) 0) 45) && c) && eqb (get_or s (p + 7) 0) 45) && d) ≡ true → Dated s p
  dated a b c d ea eb ec ed h =
      let x5 = and_split ((((a && b) && eqb (get_or s (p + 4) 0) 45) && c) && eqb (get_or s (p + 7) 0) 45) d h in
      let x4 = and_split (((a && b) && eqb (get_or s (p + 4) 0) 45) && c) (eqb (get_or s (p + 7) 0) 45) x5.0 in
      let x3 = and_split ((a && b) && eqb (get_or s (p + 4) 0) 45) c x4.0 in
      let x2 = and_split (a && b) (eqb (get_or s (p + 4) 0) 45) x3.0 in
      let x1 = and_split a b x2.0 in
      record { century = ea x1.0; year = eb x1.1; hyphen = eqb-true (get_or s (p + 4) 0) 45 x2.1; month = ec x3.1; dash = eqb-true (get_or s (p + 7) 0) 45 x4.1; day = ed x5.1 }

  pub real_day_lem : (a b c d k : ℕ) → a ≡ pair_at s p → b ≡ pair_at s (p + 2) → c ≡ pair_at s (p + 5) → d ≡ pair_at s (p + 8) → ((y : ℕ) → k ≤ days_in y (c - 528) + 528)
      → ((((leb 1057 (a + b) && leb 529 c) && leb c 540) && leb 529 d) && leb d k) ≡ true → RealDay s p
  real_day_lem a b c d k ea eb ec ed w h =
      let x4 = and_split (((leb 1057 (a + b) && leb 529 c) && leb c 540) && leb 529 d) (leb d k) h in
      let x3 = and_split ((leb 1057 (a + b) && leb 529 c) && leb c 540) (leb 529 d) x4.0 in
      let x2 = and_split (leb 1057 (a + b) && leb 529 c) (leb c 540) x3.0 in
      let x1 = and_split (leb 1057 (a + b)) (leb 529 c) x2.0 in
      record {
        year = omega (arith, leb-true 1057 (a + b) x1.0);
        month = (omega (arith, leb-true 529 c x1.1), omega (arith, leb-true c 540 x2.1));
        day = omega (arith, leb-true 529 d x3.1);
        within = λ y. rw (← ed, ← ec) (let z : d ≤ k = leb-true d k x4.1 in omega (arith, z, w y));
      }

-- ---- how many days a month has in any year
pub days_28 : (y m : ℕ) → 28 ≤ days_in y m
unfolding days_in
days_28 y m = go (eqb m 2) (leap y) (some (eqb m) (4 ∷ 6 ∷ 9 ∷ 11 ∷ []))
  where
    go : (a b c : Bool) → 28 ≤ pick a (pick b 29 28) (pick c 30 31)
    go true true c = omega arith
    go true false c = omega arith
    go false b true = omega arith
    go false b false = omega arith

pub days_30 : (y m : ℕ) → (m ≡ 2 → ⊥) → 30 ≤ days_in y m
unfolding days_in
days_30 y m h = rw (ne_eqb m 2 h) (go (some (eqb m) (4 ∷ 6 ∷ 9 ∷ 11 ∷ [])))
  where
    go : (c : Bool) → 30 ≤ pick c 30 31
    go true = omega arith
    go false = omega arith

pub days_31 : (y m : ℕ) → (m ≡ 2 → ⊥) → (m ≡ 4 → ⊥) → (m ≡ 6 → ⊥) → (m ≡ 9 → ⊥) → (m ≡ 11 → ⊥) → 31 ≤ days_in y m
unfolding days_in
days_31 y m h a b c d = rw (ne_eqb m 2 h, ne_eqb m 4 a, ne_eqb m 6 b, ne_eqb m 9 c, ne_eqb m 11 d) (omega arith)

-- ---- the whole
module _ (b0 b1 b2 b3 b5 b6 b8 b9 : ℕ) (d0 : digit b0 ≡ true) (d1 : digit b1 ≡ true) (d2 : digit b2 ≡ true) (d3 : digit b3 ≡ true)
    (d5 : digit b5 ≡ true) (d6 : digit b6 ≡ true) (d8 : digit b8 ≡ true) (d9 : digit b9 ≡ true) where
  date-value : every in_value (b0 ∷ b1 ∷ b2 ∷ b3 ∷ 45 ∷ b5 ∷ b6 ∷ 45 ∷ b8 ∷ b9 ∷ []) ≡ true
  date-value = rw (digit_in b0 d0, digit_in b1 d1, digit_in b2 d2, digit_in b3 d3, digit_in b5 d5, digit_in b6 d6, digit_in b8 d8, digit_in b9 d9) refl

  date_written : written "YYYY-MM-DD" (b0 ∷ b1 ∷ b2 ∷ b3 ∷ 45 ∷ b5 ∷ b6 ∷ 45 ∷ b8 ∷ b9 ∷ []) ≡ true
  unfolding written stands letter among
  date_written = rw (d0, d1, d2, d3, d5, d6, d8, d9) refl

  two_is : (a b : ℕ) → digit a ≡ true → digit b ≡ true → decimal (a ∷ b ∷ []) ≡ a * 10 + b - 528
  unfolding decimal
  two_is a b h g = omega (arith, digit_bounds a h, digit_bounds b g)

  four_is : decimal (b0 ∷ b1 ∷ b2 ∷ b3 ∷ []) ≡ (b0 * 10 + b1 - 528) * 100 + (b2 * 10 + b3 - 528)
  unfolding decimal
  four_is = omega (arith, digit_bounds b0 d0, digit_bounds b1 d1, digit_bounds b2 d2, digit_bounds b3 d3)

  date-form : 1057 ≤ (b0 * 10 + b1) + (b2 * 10 + b3) → 529 ≤ b5 * 10 + b6 → b5 * 10 + b6 ≤ 540 → 529 ≤ b8 * 10 + b9 → ((y : ℕ) → b8 * 10 + b9 ≤ days_in y (b5 * 10 + b6 - 528) + 528)
      → date_form (b0 ∷ b1 ∷ b2 ∷ b3 ∷ 45 ∷ b5 ∷ b6 ∷ 45 ∷ b8 ∷ b9 ∷ []) ≡ true
  unfolding date_form real_day
  date-form hy lo hi low w = pass _ _ _ date_written (pass _ _ _ (between_of 1 9999 y (omega (arith, four_is, digit_bounds b0 d0, digit_bounds b1 d1, digit_bounds b2 d2, digit_bounds b3 d3)) high) (pass _ _ _ day-is done))
    where
      y : ℕ
      y = decimal (b0 ∷ b1 ∷ b2 ∷ b3 ∷ [])

      high : y ≤ 9999
      high = omega (arith, four_is, digit_bounds b0 d0, digit_bounds b1 d1, digit_bounds b2 d2, digit_bounds b3 d3)

      day-is : both (between 1 12 (decimal (b5 ∷ b6 ∷ []))) (between 1 (days_in y (decimal (b5 ∷ b6 ∷ []))) (decimal (b8 ∷ b9 ∷ []))) ≡ true
      day-is =
          rw (two_is b5 b6 d5 d6, two_is b8 b9 d8 d9, between_of 1 12 (b5 * 10 + b6 - 528) (omega arith) (omega arith))
          (between_of 1 (days_in y (b5 * 10 + b6 - 528)) (b8 * 10 + b9 - 528) (omega arith) (omega (arith, w y)))

module _ (m : List ℕ) (p : ℕ) (begun : 0 < p) (fits : p + 11 ≤ length m) (f : Dated m p) (r : RealDay m p) (behind : get_or m (p + 10) 0 ≡ 60) where
  digit-of : (q j k : ℕ) → All digit m q 2 → j < 2 → q + j ≡ k → digit (get_or m k 0) ≡ true
  digit-of q j k a h e = all_at digit m q 2 j k a h e

  ten-is : part p 10 m ≡ get_or m (p + 0) 0 ∷ get_or m (p + 1) 0 ∷ get_or m (p + 2) 0 ∷ get_or m (p + 3) 0 ∷ 45 ∷ get_or m (p + 5) 0 ∷ get_or m (p + 6) 0 ∷ 45 ∷ get_or m (p + 8) 0 ∷ get_or m (p + 9) 0 ∷ []
  ten-is = part_listed m p 10 (omega arith) ∙ rw (f.hyphen, f.dash) refl

  pair_is : (q k : ℕ) → q + 1 ≡ k → pair_at m q ≡ get_or m q 0 * 10 + get_or m k 0
  pair_is q k e = ap (λ (x : ℕ). get_or m q 0 * 10 + get_or m x 0) e

  pub date_stands : Stands Date m p (p + 10)
  unfolding simple_given date_given
  date_stands = stands_part (Plain Date) yes m p 10 begun (omega arith) (rw ten-is value) behind (rw (ten-is, form) refl)
    where
      d0 : digit (get_or m (p + 0) 0) ≡ true
      d0 = f.century.each 0 (omega arith)

      d1 : digit (get_or m (p + 1) 0) ≡ true
      d1 = f.century.each 1 (omega arith)

      d2 : digit (get_or m (p + 2) 0) ≡ true
      d2 = digit-of (p + 2) 0 (p + 2) f.year (omega arith) (omega arith)

      d3 : digit (get_or m (p + 3) 0) ≡ true
      d3 = digit-of (p + 2) 1 (p + 3) f.year (omega arith) (omega arith)

      d5 : digit (get_or m (p + 5) 0) ≡ true
      d5 = digit-of (p + 5) 0 (p + 5) f.month (omega arith) (omega arith)

      d6 : digit (get_or m (p + 6) 0) ≡ true
      d6 = digit-of (p + 5) 1 (p + 6) f.month (omega arith) (omega arith)

      d8 : digit (get_or m (p + 8) 0) ≡ true
      d8 = digit-of (p + 8) 0 (p + 8) f.day (omega arith) (omega arith)

      d9 : digit (get_or m (p + 9) 0) ≡ true
      d9 = digit-of (p + 8) 1 (p + 9) f.day (omega arith) (omega arith)

      value : every in_value (get_or m (p + 0) 0 ∷ get_or m (p + 1) 0 ∷ get_or m (p + 2) 0 ∷ get_or m (p + 3) 0 ∷ 45 ∷ get_or m (p + 5) 0 ∷ get_or m (p + 6) 0 ∷ 45 ∷ get_or m (p + 8) 0 ∷ get_or m (p + 9) 0 ∷ []) ≡ true
      value = date-value (get_or m (p + 0) 0) (get_or m (p + 1) 0) (get_or m (p + 2) 0) (get_or m (p + 3) 0) (get_or m (p + 5) 0) (get_or m (p + 6) 0) (get_or m (p + 8) 0) (get_or m (p + 9) 0) d0 d1 d2 d3 d5 d6 d8 d9

      y0 : pair_at m p ≡ get_or m (p + 0) 0 * 10 + get_or m (p + 1) 0
      y0 = ap (λ (x : ℕ). get_or m x 0 * 10 + get_or m (p + 1) 0) (sym (add-zero p))

      y2 : pair_at m (p + 2) ≡ get_or m (p + 2) 0 * 10 + get_or m (p + 3) 0
      y2 = pair_is (p + 2) (p + 3) (omega arith)

      mo : pair_at m (p + 5) ≡ get_or m (p + 5) 0 * 10 + get_or m (p + 6) 0
      mo = pair_is (p + 5) (p + 6) (omega arith)

      da : pair_at m (p + 8) ≡ get_or m (p + 8) 0 * 10 + get_or m (p + 9) 0
      da = pair_is (p + 8) (p + 9) (omega arith)

      form : date_form (get_or m (p + 0) 0 ∷ get_or m (p + 1) 0 ∷ get_or m (p + 2) 0 ∷ get_or m (p + 3) 0 ∷ 45 ∷ get_or m (p + 5) 0 ∷ get_or m (p + 6) 0 ∷ 45 ∷ get_or m (p + 8) 0 ∷ get_or m (p + 9) 0 ∷ []) ≡ true
      form =
          date-form (get_or m (p + 0) 0) (get_or m (p + 1) 0) (get_or m (p + 2) 0) (get_or m (p + 3) 0) (get_or m (p + 5) 0) (get_or m (p + 6) 0) (get_or m (p + 8) 0) (get_or m (p + 9) 0) d0 d1 d2 d3 d5 d6 d8 d9
          (omega (arith, r.year, y0, y2)) (omega (arith, r.month.0, mo)) (omega (arith, r.month.1, mo)) (omega (arith, r.day, da)) (λ y. rw (← da, ← mo) (r.within y))
