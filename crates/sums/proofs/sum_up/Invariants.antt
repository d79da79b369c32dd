-- `sums::sum_up` meets its contract. The loop's invariant: the cents of the items that are done stand in the four sums, and the others stand in the message from here on.
use Rattle.sums.proofs.Walk.{Adding}
use Rattle.sums.proofs.sum_up.Given as goal

abbrev pub invariant-loop : goal.invariant-loop
invariant-loop l = Adding l.m l.s.finding.accepted.count l.counter l.at l.sums
