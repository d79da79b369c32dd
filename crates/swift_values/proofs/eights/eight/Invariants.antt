-- `swift_values::eights::eight` meets its contract.
use mathlib.Core.Path.{◌≡◌}
use mathlib.Core.Bool.{true}
use Rattle.swift_values.specs.Blocks.{AllPassed}
use Rattle.swift_values.proofs.eights.eight.Given as goal

abbrev pub invariant-loop-i : goal.invariant-loop-i
invariant-loop-i g l = l.r ≡ true → AllPassed (goal.F-post g l.passes) l.m l.p l.i
