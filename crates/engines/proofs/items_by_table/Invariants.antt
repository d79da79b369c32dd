-- `engines::items_by_table` meets its contract. The loop's invariant: the rows of the items that are read stand before what was lent.
use Rattle.engine.proofs.Rows.{Reads}
use Rattle.engines.proofs.items_by_table.Given as goal

abbrev pub invariant-loop-i : goal.invariant-loop-i
invariant-loop-i l = Reads l.v l.m l.at l.initial.rows l.i l.p l.rows
