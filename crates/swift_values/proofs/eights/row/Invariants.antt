-- `swift_values::eights::row` meets its contract.
use mathlib.Core.Path.{◌≡◌}
use Prim.Native.Nat.{◌-◌, ◌*◌, ◌≤◌}
use Rattle.swift_values.specs.Blocks.{balance}
use Rattle.swift_values.proofs.eights.row.Given as goal

abbrev pub invariant-loop-i : goal.invariant-loop-i
invariant-loop-i l = (l.i ≤ 8) × (l.s ≤ l.i * 5472) × (l.s ≡ balance l.m l.p l.w l.i)

abbrev pub decreases-loop-i : goal.decreases-loop-i
decreases-loop-i l = 8 - l.i
