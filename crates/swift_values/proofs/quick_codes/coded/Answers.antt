-- `swift_values::quick_codes::coded` meets its contract.
use borrow.Author.Tests.{eqb-true}
use Rattle.swift_values.proofs.Lanes.{and_split}
use Rattle.swift_values.proofs.Codes.{code_stands}
use Rattle.swift_values.proofs.quick_codes.coded.Goals as goal

pub returns-then-are-m : goal.returns-then-are-m
returns-then-are-m c =
    let a = c.args in
    let h = c.requires in
    let x = and_split c.are.result _ c.if-are-m.true in
    (h.2, code_stands a.m.now a.at a.e a.w _ h.0 h.1 h.3 h.4 (c.are.ensures x.0) (eqb-true _ _ x.1))
