-- The records, with the lent index: 25 before all others, "index and records unchanged".
use Rattle.std.specs.Prelude.{ℕ, List}
use Rattle.postings.specs.Area.{Outcome, as_lent, recorded}
use Rattle.judge.specs.Index.{or_short}

abbrev pub recorded_with : List ℕ → List ℕ → List ℕ → Outcome
recorded_with index m a = or_short index (as_lent 25 0 a) (recorded m a)
