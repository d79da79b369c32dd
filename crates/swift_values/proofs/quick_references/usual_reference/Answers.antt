-- `swift_values::quick_references::usual_reference` meets its contract.
use Rattle.std.proofs.Common.{rules}
use native.Mathlib.Omega.{arith}
use Rattle.swift_values.specs.Lanes.{slashless}
use Rattle.swift_values.proofs.Lanes.{run_of}
use Rattle.swift_values.proofs.Values.{run_less, usual_stands}
use Rattle.swift_values.proofs.quick_references.usual_reference.Goals as goal

pub returns-then-ends_like : goal.returns-then-ends_like
returns-then-ends_like c =
    let h = c.room.ensures c.if-not-room.false in
    let l = c.ends_like.ensures c.if-ends_like.true in
    let n = c.passing-n in
    let r = run_less _ _ _ _ c.args.like (run_of _ _ _ slashless (λ b x e. search rules) _ n.ensures.1) l.0 in
    usual_stands c.args.m.now c.args.at c.args.like (omega arith) r l.2 h.0 l.1 (omega (arith, n.ensures.0))

pub returns-then-ended : goal.returns-then-ended
returns-then-ended c =
    let h = c.room.ensures c.if-not-room.false in
    let e = c.ended.ensures c.if-ended.true in
    let n = c.passing-n in
    usual_stands c.args.m.now c.args.at n.result (omega arith) (run_of _ _ _ slashless (λ b x e. search rules) _ n.ensures.1) e.1 h.0 e.0 (omega (arith, n.ensures.0))
