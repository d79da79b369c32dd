-- "Times must not fall as instants": a time with its offset as a number of seconds. Days are counted from year 1 on, proleptic Gregorian.
use Rattle.std.specs.Prelude.{ℕ, zero, suc, ◌+◌, ◌-◌, ◌*◌, List, eqb, drop}
use Rattle.text.specs.Truth.{pick, first, part}
use Rattle.text.specs.Quoted.{byte, decimal}
use Rattle.calendar.specs.Date.{leap, days_in, year, month, day}

-- the days of the first n years
unfoldable pub years_days : ℕ → ℕ
years_days zero = 0
years_days (suc n) = years_days n + pick (leap (suc n)) 366 365

-- the days of the first n months of the year y
unfoldable pub months_days : ℕ → ℕ → ℕ
months_days y zero = 0
months_days y (suc n) = months_days y n + days_in y (suc n)

-- the days before a date `YYYY-MM-DD`
unfoldable pub days_before : List ℕ → ℕ
days_before s = years_days (year s - 1) + months_days (year s) (month s - 1) + (day s - 1)

-- the seconds of the day before `hh:mm:ss`
unfoldable pub seconds_before : List ℕ → ℕ
seconds_before s = decimal (part 0 2 s) * 3600 + decimal (part 3 2 s) * 60 + decimal (part 6 2 s)

-- the seconds that an offset names, a sign and `hh:mm`
unfoldable pub offset_seconds : List ℕ → ℕ
offset_seconds s = (decimal (part 1 2 s) * 60 + decimal (part 4 2 s)) * 60

-- the greatest offset, 14:00: it is added, so that no instant lies below 0
abbrev pub greatest_offset : ℕ
greatest_offset = 14 * 3600

-- the seconds as written; and the instant, for which an offset ahead (`+`) is taken away
unfoldable pub as_written : List ℕ → ℕ
as_written s = days_before (part 0 10 s) * 86400 + seconds_before (part 11 8 s) + greatest_offset

unfoldable pub instant : List ℕ → ℕ
instant s = pick (eqb (first (drop 19 s)) (byte "+")) (as_written s - offset_seconds (drop 19 s)) (as_written s + offset_seconds (drop 19 s))
