-- `straight::quick::same_block` meets its contract. The loop's invariant: where nothing differs so far, the bytes before i are the same.
use Rattle.std.proofs.Common.{◌≡◌, ◌-◌, ◌≤◌}
use Rattle.straight.specs.Words.{Match}
use Rattle.straight.proofs.quick.same_block.Given as goal

abbrev pub invariant-loop-i : goal.invariant-loop-i
invariant-loop-i l = (l.i ≤ 64) × (l.d ≡ 0 → Match l.m l.at l.m l.q l.i)

abbrev pub decreases-loop-i : goal.decreases-loop-i
decreases-loop-i l = 64 - l.i
