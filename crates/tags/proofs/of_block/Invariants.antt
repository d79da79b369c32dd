-- `tags::of_block` meets its contract. The loop's invariant: r is the first of the lanes before i that is `<`, or 48.
use Prim.Native.Nat.{◌≤◌}
use Rattle.tags.proofs.Ends.{Told}
use Rattle.tags.proofs.of_block.Given as goal

abbrev pub invariant-loop-i : goal.invariant-loop-i
invariant-loop-i l = (l.i ≤ 48) × Told l.block l.i l.r
