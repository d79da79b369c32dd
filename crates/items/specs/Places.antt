-- Where the last value of a field begins, in a list of what was read; 0 where there is none.
use Rattle.std.specs.Prelude.{ℕ, List, [], ◌∷◌, eqb}
use Rattle.text.specs.Truth.{pick}
use Rattle.tags.specs.Values.{value_at}
use Rattle.profile.specs.declared.Field.{Field}
use Rattle.reading.specs.Trace.{Entry}
use Rattle.reading.specs.Rules.{of_field}
use Rattle.reading.specs.Judged.{place_in}

abbrev pub field_from : ℕ → Field → List Entry → ℕ
field_from q f [] = q
field_from q f (e ∷ l) = field_from (place_in (of_field f e.what) e.place q) f l

abbrev pub field_place : Field → List Entry → ℕ
field_place f es = field_from 0 f es

-- what stands at a place that was noted so: nothing at place 0
abbrev pub held_at : List ℕ → ℕ → List ℕ
held_at m p = pick (eqb p 0) [] (value_at m p)
