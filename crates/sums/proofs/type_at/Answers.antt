-- `sums::type_at` meets its contract: a value that is no sequence type, and one that is; an empty one is none.
use Rattle.std.specs.Prelude.{Ok, Err}
use Rattle.sums.proofs.Lots.{type_given}
use Rattle.sums.proofs.type_at.Goals as goal

pub returns-in-Err : goal.returns-in-Err
returns-in-Err c = type_given c.args.m.now c.args.start _ c.held.ensures (Err _) c.in-Err.ensures

pub returns-in-Ok : goal.returns-in-Ok
returns-in-Ok c = type_given c.args.m.now c.args.start _ c.held.ensures (Ok _) c.in-Ok.ensures
