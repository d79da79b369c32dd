-- `straight::quick::same_long` meets its contract.
use Rattle.std.proofs.Common.{◌-◌, ◌≤◌}
use Rattle.straight.specs.Words.{Match}
use Rattle.straight.proofs.quick.same_long.Given as goal

abbrev pub invariant-loop-i : goal.invariant-loop-i
invariant-loop-i l = (l.i ≤ l.n) × Match l.m l.at l.t l.k l.i

abbrev pub decreases-loop-i : goal.decreases-loop-i
decreases-loop-i l = l.n - l.i
