-- The plain form, with the lent index: 25 before all others, and the area as lent.
use Rattle.std.specs.Prelude.{ℕ, ◌≤◌, ◌<◌, ◌≡◌, List, length}
use Rattle.forms.specs.Written.{Outcome, unchanged, Wrote}
use Rattle.twice.specs.Twice.{least_index}

pub data WroteWith (index m a : List ℕ) (o : Outcome) : Type 0 where
  too_short : length index < least_index → o ≡ unchanged 25 0 a → WroteWith index m a o
  with_room : least_index ≤ length index → Wrote m a o → WroteWith index m a o
