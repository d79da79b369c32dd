-- `engine::tell` meets its contract. The loop's invariant: the first i starts stand in the part.
use Rattle.engine.proofs.Rows.{Telling}
use Rattle.engine.proofs.tell.Given as goal

abbrev pub invariant-loop-i : goal.invariant-loop-i
invariant-loop-i l = Telling l.fn.n l.initial.part l.i l.part
