-- "Date: `YYYY-MM-DD`, year 0001 to 9999, a real Gregorian day."
use Rattle.std.specs.Prelude.{ℕ, ◌%◌, Bool, not, List, [], ◌∷◌, eqb}
use Rattle.text.specs.Truth.{both, either, pick, between, all_of, some, part}
use Rattle.text.specs.Quoted.{decimal}
use Rattle.answers.specs.Given.{Given, yes, in_order, ◌else◌}
use Rattle.calendar.specs.Pattern.{written}

-- every fourth year has a day more, but of the hundreds only every fourth
unfoldable pub leap : ℕ → Bool
leap y = both (eqb (y % 4) 0) (either (not (eqb (y % 100) 0)) (eqb (y % 400) 0))

-- the days of a month: February, the four of thirty days, the others
unfoldable pub days_in : ℕ → ℕ → ℕ
days_in y m = pick (eqb m 2) (pick (leap y) 29 28) (pick (some (eqb m) (4 ∷ 6 ∷ 9 ∷ 11 ∷ [])) 30 31)

-- the day d of the month m of the year y, proleptic Gregorian
unfoldable pub real_day : ℕ → ℕ → ℕ → Bool
real_day y m d = both (between 1 12 m) (between 1 (days_in y m) d)

abbrev pub year : List ℕ → ℕ
year s = decimal (part 0 4 s)

abbrev pub month : List ℕ → ℕ
month s = decimal (part 5 2 s)

abbrev pub day : List ℕ → ℕ
day s = decimal (part 8 2 s)

unfoldable pub date_form : List ℕ → Bool
date_form s =
    all_of
    (written "YYYY-MM-DD" s
    ∷ between 1 9999 (year s)
    ∷ real_day (year s) (month s) (day s)
    ∷ [])

unfoldable pub date_given : List ℕ → Given
date_given s = in_order (date_form s else 7 ∷ []) yes
