-- `words::collapse` meets its contract. The loop's invariant: `n` bytes of the collapsed value are written, and what stands from `i` on becomes the others.
use Prim.Native.Nat.{◌≤◌}
use mathlib.Core.List.{map}
use lib.ListN.{length, drop}
use Rattle.words.specs.Collapsed.{as_space, runs_as_one, collapsed}
use Rattle.words.proofs.Walk.{Laid}
use Rattle.words.proofs.collapse.Given as goal

abbrev pub invariant-loop-n : goal.invariant-loop-n
invariant-loop-n l = (l.i ≤ length l.p) × Laid (collapsed l.s) l.initial.to (runs_as_one (map as_space (drop l.i l.p))) l.to l.n
