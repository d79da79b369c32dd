-- What is written and what is left come to the whole, and the rest of the area is as lent.
use lib.ListN.{length}
use Rattle.plain.proofs.Pieces.{Laid}
use Rattle.plain.proofs.fill.Given as goal

abbrev pub invariant-loop-rest : goal.invariant-loop-rest
invariant-loop-rest l = Laid l.s l.initial.area l.rest l.n l.area

abbrev pub decreases-loop-rest : goal.decreases-loop-rest
decreases-loop-rest l = length l.rest
