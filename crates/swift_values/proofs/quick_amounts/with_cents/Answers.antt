-- `swift_values::quick_amounts::with_cents` meets its contract.
use native.Mathlib.Omega.{arith}
use Prim.Native.Nat.{◌-◌, ◌*◌, ◌+◌}
use Rattle.swift_values.proofs.Amounts.{cents_low, cents_stand}
use Rattle.swift_values.proofs.quick_amounts.with_cents.Goals as goal

pub overflow_sub-result : goal.overflow_sub-result
overflow_sub-result c =
    let a = c.args in
    let h = c.requires in
    omega (arith, cents_low a.m.now a.at a.k a.n h.0 h.1 h.2 h.4 h.5 h.6)

pub returns : goal.returns
returns c =
    let a = c.args in
    let h = c.requires in
    let x = a.n * 100 + c.pair_at.result - 528 in
    let l = cents_low a.m.now a.at a.k a.n h.0 h.1 h.2 h.4 h.5 h.6 in
    (omega (arith, c.pair_at.ensures.0), cents_stand a.m.now a.at a.k a.n h.0 h.1 h.2 h.4 h.5 h.6 x (omega (arith, c.pair_at.ensures.0)) (omega (arith, c.pair_at.ensures.0)))
