-- `swift_values::quick_bics::quick_bic` meets its contract.
use borrow.Author.Tests.{eqb-true}
use mathlib.Core.Bool.{◌&&◌}
use Rattle.swift_values.proofs.Lanes.{and_split}
use Rattle.swift_values.proofs.Bics.{bic_stands}
use Rattle.swift_values.proofs.quick_bics.quick_bic.Goals as goal

pub returns-then-bic_head-caps : goal.returns-then-bic_head-caps
returns-then-bic_head-caps c =
    let h = c.room.ensures c.if-not-room.false in
    let n = c.bic_length-n in
    let x = and_split ((c.bic_head.result && c.caps.result) && c.eighth.result) _ c.if-bic_head-caps.true in
    let z = and_split (c.bic_head.result && c.caps.result) c.eighth.result x.0 in
    let y = and_split c.bic_head.result c.caps.result z.0 in
    bic_stands c.args.wider c.args.m.now c.args.at h.0 h.1 (c.bic_head.ensures y.0) (c.eighth.ensures z.1) n.result n.ensures (c.caps.ensures y.1) (eqb-true _ _ x.1)
