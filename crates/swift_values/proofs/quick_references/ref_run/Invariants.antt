-- `swift_values::quick_references::ref_run` meets its contract.
use Rattle.swift_values.specs.Lanes.{ref_pair, Run}
use Rattle.swift_values.proofs.quick_references.ref_run.Given as goal

abbrev pub invariant-loop-i : goal.invariant-loop-i
invariant-loop-i l = Run ref_pair l.m l.at l.i
