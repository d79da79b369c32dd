-- `straight::items` meets its contract. The loop's invariant: the rows of the items that are read stand before what was lent;
-- the next item is within the message; what is kept of those before is spelled in it.
use Rattle.std.proofs.Common.{◌≤◌, length}
use Rattle.engine.proofs.Rows.{Reads}
use Rattle.straight.specs.Kept.{Kept}
use Rattle.straight.proofs.items.Given as goal

abbrev pub invariant-loop-i : goal.invariant-loop-i
invariant-loop-i l = Reads l.fn.v l.m l.at l.initial.rows l.i l.p l.rows × (l.p ≤ length l.m) × Kept l.m l.fn.v l.before
