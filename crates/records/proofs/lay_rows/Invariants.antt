-- `records::lay_rows`: the records of the first i rows stand in the area.
use Rattle.records.proofs.Areas.{Laying}
use Rattle.records.proofs.lay_rows.Given as goal

abbrev pub invariant-loop-i : goal.invariant-loop-i
invariant-loop-i l = Laying l.m l.above l.flat l.n l.initial.area l.i l.area
