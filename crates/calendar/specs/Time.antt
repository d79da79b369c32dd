-- "Time (CreDtTm): date, `T`, `hh:mm:ss` (00-23, 00-59, 00-59), then optionally `.` and three digits, then nothing, `Z`, or a sign and `hh:mm` from 00:00 to 14:00."
use Rattle.std.specs.Prelude.{ℕ, ◌+◌, ◌*◌, Bool, List, [], ◌∷◌, take, drop, eqb, leb}
use Rattle.text.specs.Truth.{both, either, all_of, at, first, part}
use Rattle.text.specs.Quoted.{byte, is, among, decimal}
use Rattle.answers.specs.Given.{Given, yes, in_order, ◌else◌}
use Rattle.calendar.specs.Pattern.{written}
use Rattle.calendar.specs.Date.{date_form}

-- `hh:mm:ss` (00-23, 00-59, 00-59)
unfoldable pub clock_form : List ℕ → Bool
clock_form s =
    all_of
    (written "hh:mm:ss" s
    ∷ leb (decimal (part 0 2 s)) 23
    ∷ leb (decimal (part 3 2 s)) 59
    ∷ leb (decimal (part 6 2 s)) 59
    ∷ [])

-- a sign and `hh:mm` from 00:00 to 14:00: minutes to 59, and 14:00 the most
unfoldable pub offset_form : List ℕ → Bool
offset_form s =
    all_of
    (among "+ -" (first s)
    ∷ written "hh:mm" (drop 1 s)
    ∷ leb (decimal (part 4 2 s)) 59
    ∷ leb (decimal (part 1 2 s) * 60 + decimal (part 4 2 s)) (14 * 60)
    ∷ [])

-- nothing, `Z`, or an offset
unfoldable pub zone_form : List ℕ → Bool
zone_form s = either (is "" s) (either (is "Z" s) (offset_form s))

-- optionally `.` and three digits, then the zone
unfoldable pub end_form : List ℕ → Bool
end_form s = either (zone_form s) (both (written ".fff" (take 4 s)) (zone_form (drop 4 s)))

unfoldable pub time_form : List ℕ → Bool
time_form s =
    all_of
    (date_form (part 0 10 s)
    ∷ eqb (at s 10) (byte "T")
    ∷ clock_form (part 11 8 s)
    ∷ end_form (drop 19 s)
    ∷ [])

unfoldable pub time_given : List ℕ → Given
time_given s = in_order (time_form s else 7 ∷ []) yes
