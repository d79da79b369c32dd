-- `swift_values::runs::passing` meets its contract.
use native.Mathlib.Omega.{arith}
use Rattle.swift_values.proofs.Lanes.{seen_none, seen_on, seen_all}
use Rattle.swift_values.proofs.runs.passing.Goals as goal

pub loop-i-init : goal.loop-i-init
loop-i-init g c = (omega arith, seen_none _ _ _ _)

pub loop-i-preserved : goal.loop-i-preserved
loop-i-preserved g c =
    let l = c.loop-i in
    let q = c.min-r in
    (omega arith, seen_on _ _ _ l.i l.r c.key.result q.result c.passes.result l.invariant.1 c.passes.ensures c.key.ensures (omega (arith, q.ensures)) (omega (arith, q.ensures)))

pub returns : goal.returns
returns g c = rw c.from.ensures (c.loop-i.invariant.0, seen_all _ _ _ c.loop-i.i c.loop-i.r (omega arith) c.loop-i.invariant.1)
