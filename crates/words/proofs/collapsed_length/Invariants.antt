-- `words::collapsed_length` meets its contract. The loop's invariant: `n`, and how many bytes what stands from `i` on becomes, are how many there are.
-- The measure is what is left of the value.
use Prim.Native.Nat.{◌+◌, ◌-◌, ◌≤◌}
use mathlib.Core.Path.{◌≡◌}
use mathlib.Core.List.{map}
use lib.ListN.{length, drop}
use Rattle.words.specs.Collapsed.{as_space, runs_as_one, collapsed}
use Rattle.words.proofs.collapsed_length.Given as goal

abbrev pub invariant-loop-i : goal.invariant-loop-i
invariant-loop-i l = (l.i ≤ length l.p) × (l.n + length (runs_as_one (map as_space (drop l.i l.p))) ≡ length (collapsed l.s))

abbrev pub decreases-loop-i : goal.decreases-loop-i
decreases-loop-i l = length l.p - l.i
