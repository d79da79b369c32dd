-- `swift_values::eights::row` meets its contract.
use native.Mathlib.Omega.{arith}
use mathlib.Core.Path.{◌≡◌, refl, ◌∙◌}
use Prim.Native.Nat.{◌*◌, ◌≤◌}
use lib.ListN.{get_or}
use Rattle.swift_values.proofs.Weights.{one_small, balance_on}
use Rattle.swift_values.proofs.eights.row.Goals as goal

pub loop-i-init : goal.loop-i-init
loop-i-init c = (omega arith, omega arith, refl)

pub overflow_mul-s : goal.overflow_mul-s
overflow_mul-s c =
    let a = c.args in
    let l = c.loop-i in
    let small : c.from.result * get_or a.w l.i 0 ≤ 5472 = rw c.from.ensures (one_small a.m.now a.p a.w 8 l.i c.requires.1 (omega arith) c.requires.2) in
    omega (arith, small)

pub overflow_add-s : goal.overflow_add-s
overflow_add-s c =
    let a = c.args in
    let l = c.loop-i in
    let small : c.from.result * get_or a.w l.i 0 ≤ 5472 = rw c.from.ensures (one_small a.m.now a.p a.w 8 l.i c.requires.1 (omega arith) c.requires.2) in
    omega (arith, small)

pub loop-i-preserved : goal.loop-i-preserved
loop-i-preserved c =
    let a = c.args in
    let l = c.loop-i in
    let small : c.from.result * get_or a.w l.i 0 ≤ 5472 = rw c.from.ensures (one_small a.m.now a.p a.w 8 l.i c.requires.1 (omega arith) c.requires.2) in
    (omega arith, omega (arith, small), balance_on a.m.now a.p a.w l.i l.s c.from.result (get_or a.w l.i 0) l.invariant.2 c.from.ensures refl)

pub returns : goal.returns
returns c =
    let l = c.loop-i in
    let z : l.i ≡ 8 = omega arith in
    (c.from-2.ensures ∙ (rw z at l.invariant.2), omega (arith, c.from-2.ensures))
