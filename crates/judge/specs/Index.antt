-- The lent index. "25, index under 16,384 numbers, place 0, before all others of the judge"; "demand 2's acceptance speaks of an index with room".
use Rattle.std.specs.Prelude.{ℕ, List, ltb, length}
use Rattle.text.specs.Truth.{pick}
use Rattle.reading.specs.Verdict.{Judged, refused, Located, not_there}
use Rattle.reading.specs.Judged.{judged}
use Rattle.reading.specs.Items.{item}
use Rattle.twice.specs.Twice.{least_index}
use Rattle.judge.specs.Found.{Found, denied, found}
use Rattle.judge.specs.Survey.{Surveyed, without, survey}

-- a where the index has too few numbers, else b
unfoldable pub or_short : {A : Type 0} → List ℕ → A → A → A
or_short index a b = pick (ltb (length index) least_index) a b

abbrev pub judged_with : List ℕ → List ℕ → Judged
judged_with index m = or_short index (refused 25 0) (judged m)

abbrev pub item_with : List ℕ → ℕ → List ℕ → Located
item_with index i m = or_short index (not_there 25 0) (item i m)

abbrev pub found_with : List ℕ → List ℕ → Found
found_with index m = or_short index (denied 25 0) (found m)

abbrev pub survey_with : List ℕ → List ℕ → Surveyed
survey_with index m = or_short index (without (denied 25 0)) (survey m)
