-- `swift_values::runs::passing` meets its contract.
use Prim.Native.Nat.{◌≤◌}
use Rattle.swift_values.proofs.Lanes.{Seen}
use Rattle.swift_values.proofs.runs.passing.Given as goal

abbrev pub invariant-loop-i : goal.invariant-loop-i
invariant-loop-i g l = (l.r ≤ 32) × Seen (goal.F-post g l.passes) l.m l.at l.i l.r
