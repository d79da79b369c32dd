-- `swift_values::quick_amounts::quick_amount` meets its contract.
use native.Mathlib.Omega.{arith}
use Prim.Native.Nat.{◌+◌}
use borrow.Author.Tests.{eqb-true, leb-true}
use lib.Dec.{eqb, leb}
use lib.ListN.{get_or}
use Rattle.swift_values.proofs.Lanes.{and_split}
use Rattle.swift_values.proofs.Amounts.{whole_stands}
use Rattle.swift_values.proofs.quick_amounts.quick_amount.Goals as goal

pub returns-then-m-q : goal.returns-then-m-q
returns-then-m-q c =
    let a = c.args in
    let d = c.leading-d in
    let k = d.result.many in
    let n = d.result.number in
    let x = and_split (eqb (get_or a.m.now (a.at + k) 0) 60) (leb 1 n) c.if-m-q.true in
    (omega arith, whole_stands a.m.now a.at k n (omega arith) (omega arith) d.ensures.0 (omega arith) d.ensures.2 (eqb-true _ _ x.0) (leb-true 1 n x.1))
