-- `swift_values::quick_ibans::usual_iban` meets its contract.
use native.Mathlib.Omega.{arith}
use borrow.Author.Tests.{eq-eqb}
use Prim.Native.Nat.{◌+◌}
use lib.ListN.{get_or}
use Rattle.swift_values.proofs.Ibans.{iban_stands, has_22}
use Rattle.swift_values.proofs.Lengths.{de_long}
use Rattle.swift_values.proofs.Values.{if_passed}
use Rattle.swift_values.proofs.quick_ibans.usual_iban.Goals as goal

pub returns : goal.returns
returns c =
    let m = c.args.m.now in
    let p = c.args.at in
    let e = c.in_ok-e.ensures in
    rw c.then_some.ensures (if_passed c.german.result c.in_ok-e.e _ (λ t.
    let g = c.german.ensures t in
    let long = has_22 (get_or m p 0) (get_or m (p + 1) 0) 68 69 g.1 de_long (eq-eqb (get_or m (p + 1) 0) 69 g.2) in
    rw e.1 (iban_stands m p 22 e.0 (omega arith) (rw e.1 at e.3) g.0 long (omega arith) (omega arith))))
