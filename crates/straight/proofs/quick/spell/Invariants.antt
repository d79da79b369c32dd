-- `straight::quick::spell` meets its contract.
use Rattle.std.proofs.Common.{◌-◌, ◌<◌, ◌≤◌, length}
use Rattle.straight.proofs.Spelled.{Sofar}
use Rattle.straight.proofs.quick.spell.Given as goal

abbrev pub invariant-loop-i : goal.invariant-loop-i
invariant-loop-i l = Sofar l.m l.at l.text l.i l.p × (0 < l.at) × (0 < l.p) × (l.i ≤ length l.text) × (l.k ≤ l.i)

abbrev pub decreases-loop-i : goal.decreases-loop-i
decreases-loop-i l = length l.m - l.p
