-- What the form of a date, of an offset and of a time of 25 bytes tells, and how the parts of a time make its instant.
use mathlib.Core.Path.{◌≡◌, refl, sym, ap, ◌∙◌}
use mathlib.Core.Bool.{Bool, true, false}
use mathlib.Core.List.{List, [], ◌∷◌}
use Prim.Native.Nat.{ℕ, ◌+◌, ◌-◌, ◌*◌, ◌≤◌}
use native.Mathlib.Omega.{arith}
use borrow.Author.Tests.{leb-true, ne_eqb}
use lib.ListN.{length, take, drop, get_or, length-drop}
use Rattle.text.specs.Truth.{both, either, part}
use Rattle.text.specs.Quoted.{decimal, equal}
use Rattle.text.proofs.Truths.{both_true, both_false, between_true, passes}
use Rattle.text.proofs.Scan.{paired_length, rest_of, first_of_rest}
use Rattle.answers.specs.Given.{in_order, ◌else◌, yes}
use Rattle.calendar.specs.Date.{date_form, real_day, days_in, year, month, day}
use Rattle.calendar.specs.Pattern.{written}
use Rattle.calendar.specs.Time.{offset_form, zone_form, end_form, time_form, time_given}
use Rattle.calendar.proofs.Dates.{date_long}
use Rattle.calendar.proofs.Times.{offset_length, zone_offset}
use Rattle.calendar.proofs.Written.{written_length}
use Rattle.recording.specs.Instant.{years_days, months_days, days_before, offset_seconds, as_written, instant}
use Rattle.recording.specs.Record.{taken, stamp_form}

-- ---- a date
pub year_two : (s : List ℕ) → 4 ≤ length s → year s ≡ decimal (part 0 2 s) * 100 + decimal (part 2 2 s)
unfolding decimal
year_two [] h = omega arith
year_two (a ∷ []) h = omega arith
year_two (a ∷ b ∷ []) h = omega arith
year_two (a ∷ b ∷ c ∷ []) h = omega arith
year_two (a ∷ b ∷ c ∷ d ∷ s) h = omega arith

module _ (s : List ℕ) (e : date_form s ≡ true) where
  pub long_date : length s ≡ 10
  unfolding date_form
  long_date = date_long s (passes _ e 0)

  pub year_in : (1 ≤ year s) × (year s ≤ 9999)
  unfolding date_form
  year_in = between_true 1 9999 (year s) (passes _ e 1)

  real : (1 ≤ month s) × (month s ≤ 12) × (1 ≤ day s)
  unfolding date_form real_day
  real =
      let h = both_true _ _ (passes _ e 2) in
      let m = between_true 1 12 (month s) h.0 in
      (m.0, m.1, (between_true 1 (days_in (year s) (month s)) (day s) h.1).0)

  pub month_in : (1 ≤ month s) × (month s ≤ 12)
  month_in = (real.0, real.1)

  pub day_in : 1 ≤ day s
  day_in = real.2

-- ---- an offset
module _ (s : List ℕ) (e : offset_form s ≡ true) where
  pub long_offset : length s ≡ 6
  unfolding offset_form
  long_offset = omega (arith, written_length "hh:mm" (drop 1 s) (passes _ e 1), length-drop 1 s)

  pub offset_most : decimal (part 1 2 s) * 60 + decimal (part 4 2 s) ≤ 840
  unfolding offset_form
  offset_most = leb-true _ _ (passes _ e 3)

-- ---- a time of 25 bytes: what ends it has six, and so it is an offset
no_zone : (s : List ℕ) → length s ≡ 2 → zone_form s ≡ false
no_zone s h =
    sym (zone_offset s (λ z. omega (arith, h, z)) (paired_length equal (90 ∷ []) s (λ z. omega (arith, h, z))))
    ∙ sym (offset_length s (λ z. omega (arith, h, z)))

pub end_offset : (s : List ℕ) → length s ≡ 6 → end_form s ≡ offset_form s
unfolding end_form
end_offset s h =
    rw (no_zone (drop 4 s) (omega (arith, length-drop 4 s)), both_false (written ".fff" (take 4 s)))
    (none (zone_form s) ∙ sym (zone_offset s (λ z. omega (arith, h, z)) (paired_length equal (90 ∷ []) s (λ z. omega (arith, h, z)))))
  where
    none : (b : Bool) → either b false ≡ b
    none true = refl
    none false = refl

given_form : (b : Bool) → taken (in_order (b else 7 ∷ []) yes) ≡ b
given_form true = refl
given_form false = refl

pub time_taken : (s : List ℕ) → taken (time_given s) ≡ time_form s
unfolding time_given
time_taken s = given_form (time_form s)

module _ (s : List ℕ) (h : length s ≡ 25) where
  ends : time_form s ≡ true → offset_form (drop 19 s) ≡ true
  unfolding time_form
  ends e = sym (end_offset (drop 19 s) (omega (arith, length-drop 19 s))) ∙ passes _ e 3

  pub stamp_time : taken (time_given s) ≡ stamp_form s
  unfolding stamp_form
  stamp_time = rw (time_taken s) (go (time_form s) refl)
    where
      go : (b : Bool) → time_form s ≡ b → b ≡ both b (offset_form (drop 19 s))
      go true e = sym (ends e)
      go false e = refl

module _ (s : List ℕ) (e : stamp_form s ≡ true) where
  pub stamp_date : date_form (part 0 10 s) ≡ true
  unfolding stamp_form time_form
  stamp_date = passes _ (sym (time_taken s) ∙ (both_true (taken (time_given s)) (offset_form (drop 19 s)) e).0) 0

  pub stamp_offset : offset_form (drop 19 s) ≡ true
  unfolding stamp_form
  stamp_offset = (both_true (taken (time_given s)) (offset_form (drop 19 s)) e).1

-- ---- what the functions sum up
-- the two halves of the year, the month and the day
pub record Halves (s : List ℕ) (a b m d : ℕ) : Type 0 where
  pub before : a ≡ decimal (part 0 2 s)
  pub behind : b ≡ decimal (part 2 2 s)
  pub month_read : m ≡ month s
  pub day_read : d ≡ day s

module _ (s : List ℕ) (e : date_form s ≡ true) {a b m d : ℕ} (r : Halves s a b m d) where
  pub year_is : a * 100 + b ≡ year s
  year_is = omega (arith, year_two s (omega (arith, long_date s e)))

  pub days_are : (u v : ℕ) → u ≡ years_days (a * 100 + b - 1) → v ≡ months_days (a * 100 + b) (m - 1) → u + v + (d - 1) ≡ days_before s
  unfolding days_before
  days_are u v p q = rw (p, q, year_is, r.month_read, r.day_read)

-- ahead of UTC (`+`), and behind it
module _ (t : List ℕ) (w o : ℕ) (ew : w ≡ as_written t) (eo : o ≡ offset_seconds (take (length t - 19) (drop 19 t))) where
  offset-is : o ≡ offset_seconds (drop 19 t)
  offset-is = eo ∙ ap offset_seconds (rest_of 19 t)

  pub ahead : get_or t 19 0 ≡ 43 → w - o ≡ instant t
  unfolding instant
  ahead h = rw (ew, offset-is, first_of_rest t 19, h)

  pub behind : (get_or t 19 0 ≡ 43 → ⊥) → w + o ≡ instant t
  unfolding instant
  behind h = rw (ew, offset-is, first_of_rest t 19, ne_eqb (get_or t 19 0) 43 h)
