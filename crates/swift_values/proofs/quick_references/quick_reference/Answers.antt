-- `swift_values::quick_references::quick_reference` meets its contract.
use native.Mathlib.Omega.{arith}
use Rattle.swift_values.proofs.Lanes.{and_split}
use Rattle.swift_values.proofs.Parts.{differs}
use Rattle.swift_values.proofs.Values.{reference_stands}
use Rattle.swift_values.proofs.quick_references.quick_reference.Goals as goal

pub returns-then-ended-m : goal.returns-then-ended-m
returns-then-ended-m c =
    let h = c.room.ensures c.if-not-room.false in
    let x = and_split c.ended.result _ c.if-ended-m.true in
    let e = c.ended.ensures x.0 in
    reference_stands c.args.m.now c.args.at c.ref_run-n.result (omega arith) c.ref_run-n.ensures.1 e.1 h.0 e.0 c.ref_run-n.ensures.0 (differs _ _ x.1)
