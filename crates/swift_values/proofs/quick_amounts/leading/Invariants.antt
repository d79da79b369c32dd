-- `swift_values::quick_amounts::leading` meets its contract.
use Rattle.swift_values.specs.Amounts.{Written}
use Rattle.swift_values.proofs.quick_amounts.leading.Given as goal

abbrev pub invariant-loop-i : goal.invariant-loop-i
invariant-loop-i l = Written l.m l.at l.i l.n
