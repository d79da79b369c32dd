-- `notes::State::with_start` meets its contract: a field's number is within the starts.
use native.Mathlib.Omega.{arith}
use Rattle.profile.proofs.Fields.{number_below}
use Rattle.notes.proofs.State.with_start.Goals as goal

pub offset_bounds-self-number_of : goal.offset_bounds-self-number_of
offset_bounds-self-number_of c = omega (arith, c.number_of.ensures, number_below c.args.f)

pub bounds-self-number_of : goal.bounds-self-number_of
bounds-self-number_of c = omega (arith, c.number_of.ensures, number_below c.args.f)

pub returns : goal.returns
returns c = rw c.number_of.ensures
