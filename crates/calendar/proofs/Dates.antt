-- A date's year by its two pairs of digits, and its bounds; a date by the year, month and day.
use mathlib.Core.Path.{◌≡◌, refl, sym}
use mathlib.Core.Bool.{true, false}
use mathlib.Core.List.{List, [], ◌∷◌}
use Prim.Native.Nat.{ℕ, ◌+◌, ◌*◌, ◌≤◌, ◌<◌}
use native.Mathlib.Omega.{arith}
use borrow.Author.Tests.{lt-leb}
use lib.ListN.{length}
use Rattle.text.specs.Truth.{at, part}
use Rattle.text.specs.Quoted.{bytes, among, decimal}
use Rattle.text.specs.Classes.{digit}
use Rattle.text.proofs.Truths.{between_of, fails, pass, lastly}
use Rattle.text.proofs.Digits.{digit_bounds}
use Rattle.text.proofs.Scan.{two_at}
use Rattle.calendar.specs.Pattern.{letter, written}
use Rattle.calendar.specs.Date.{real_day, year, month, day, date_form}
use Rattle.calendar.proofs.Written.{written_length, written_digit}

four : (s : List ℕ) → 4 ≤ length s → decimal (part 0 4 s) ≡ decimal (part 0 2 s) * 100 + decimal (part 2 2 s)
unfolding decimal
four [] h = omega arith
four (a ∷ []) h = omega arith
four (a ∷ b ∷ []) h = omega arith
four (a ∷ b ∷ c ∷ []) h = omega arith
four (a ∷ b ∷ c ∷ d ∷ s) h = omega arith

two_high : (s : List ℕ) (i : ℕ) → i + 2 ≤ length s → digit (at s i) ≡ true → digit (at s (i + 1)) ≡ true → decimal (part i 2 s) ≤ 99
unfolding decimal
two_high s i h a b = rw (two_at s i h) (omega (arith, digit_bounds (at s i) a, digit_bounds (at s (i + 1)) b))

module _ (s : List ℕ) (w : written "YYYY-MM-DD" s ≡ true) where
  pub date_long : length s ≡ 10
  date_long = sym (written_length "YYYY-MM-DD" s w)

  digit_at : (i : ℕ) → i < 10 → letter (at (bytes "YYYY-MM-DD") i) ≡ true → digit (at s i) ≡ true
  digit_at = written_digit "YYYY-MM-DD" s w

  year-high : year s ≤ 9999
  unfolding letter among
  year-high =
      omega (
        arith,
        four s (omega (arith, date_long)),
        two_high s 0 (omega (arith, date_long)) (digit_at 0 (omega arith) refl) (digit_at 1 (omega arith) refl),
        two_high s 2 (omega (arith, date_long)) (digit_at 2 (omega arith) refl) (digit_at 3 (omega arith) refl),
      )

  -- what the calls returned
  module _ (a b : ℕ) (ea : a ≡ decimal (part 0 2 s)) (eb : b ≡ decimal (part 2 2 s)) where
    year_is : a * 100 + b ≡ year s
    year_is = omega (arith, four s (omega (arith, date_long)))

    pub no_year : a * 100 + b < 1 → false ≡ date_form s
    unfolding date_form
    no_year h = sym (fails _ 1 (rw (lt-leb 1 (year s) (omega (arith, year_is)))))

    pub date_is : 1 ≤ a * 100 + b → (m d : ℕ) → m ≡ month s → d ≡ day s → real_day (a * 100 + b) m d ≡ date_form s
    unfolding date_form
    date_is h m d em ed =
        sym (pass _ _ _ w (pass _ _ _ (between_of 1 9999 (year s) (omega (arith, year_is)) year-high) (lastly _ _ (rw (year_is, em, ed)))))
