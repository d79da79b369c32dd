-- What each function of the sums answers, by the engine's notes.
use Rattle.std.specs.Prelude.{ℕ, ◌+◌, List, get_or, set, Option, Some, None, Result, Ok, Err}
use Rattle.answers.specs.declared.Refused.{Refused}
use Rattle.answers.specs.Given.{Given, yes, worth, refused}
use Rattle.codes.specs.declared.Element.TheVariants.{SeqTp}
use Rattle.codes.specs.Listed.{code_given}
use Rattle.items.specs.Places.{held_at}
use Rattle.naming.specs.Key.{Keyed as KeyedBulk}
use Rattle.keys.specs.Engine.{keyed_as}
use Rattle.sums.specs.declared.Lot.{Lot}
use Rattle.sums.specs.declared.Weighed.{Weighed}
use Rattle.sums.specs.Sums.{no_lot}

-- a sequence type's place in its list, by what its checker gives; none where it is none of them
abbrev pub place_of : Given → Option ℕ
place_of yes = Some 0
place_of (worth i) = Some i
place_of (refused n) = None

unfoldable pub type_at : List ℕ → ℕ → Option ℕ
type_at m start = place_of (code_given SeqTp (held_at m start))

-- sums, with some cents added to that at a place; as they are where there is no such place
abbrev pub sum_at : Option ℕ → List ℕ → ℕ
sum_at (Some i) sums = get_or sums i 0
sum_at None sums = 0

abbrev pub added : Option ℕ → ℕ → List ℕ → List ℕ
added (Some i) cents sums = set sums i (get_or sums i 0 + cents)
added None cents sums = sums

-- what is said of a message with its key, and what it adds to the table: nothing where it is refused
abbrev pub keyed_in : Result Weighed Refused → KeyedBulk
keyed_in (Ok w) = keyed_as (Ok w.keyed)
keyed_in (Err r) = keyed_as (Err r)

abbrev pub lot_in : Result Weighed Refused → Lot
lot_in (Ok w) = w.lot
lot_in (Err r) = no_lot
