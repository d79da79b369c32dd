-- `swift_values::quick_references::ref_run` meets its contract.
use Rattle.std.proofs.Common.{rules}
use native.Mathlib.Omega.{arith}
use mathlib.Core.Path.{◌≡◌}
use Prim.Native.Nat.{◌+◌}
use Rattle.swift_values.specs.Lanes.{ref_pair}
use Rattle.swift_values.proofs.Lanes.{run_of}
use Rattle.swift_values.proofs.Values.{run_next}
use Rattle.swift_values.proofs.quick_references.ref_run.Goals as goal

pub loop-i-init : goal.loop-i-init
loop-i-init c =
    let z : c.passing-n.result ≡ 32 = omega arith in
    rw z at (run_of _ _ _ ref_pair (λ b x e. search rules) _ c.passing-n.ensures.1)

pub returns-then-not-ref_pair : goal.returns-then-not-ref_pair
returns-then-not-ref_pair c = (omega arith, c.loop-i.invariant)

pub loop-i-preserved : goal.loop-i-preserved
loop-i-preserved c =
    let at = c.args.at in
    let l = c.loop-i in
    let y : at + l.i + 1 ≡ at + (l.i + 1) = omega arith in
    run_next ref_pair c.args.m.now at l.i (l.i + 1) c.ref_pair.result (omega arith) l.invariant (rw y at c.ref_pair.ensures) c.if-not-ref_pair.false

pub returns : goal.returns
returns c =
    let l = c.loop-i in
    let z : l.i ≡ 35 = omega arith in
    (omega arith, rw z at l.invariant)
