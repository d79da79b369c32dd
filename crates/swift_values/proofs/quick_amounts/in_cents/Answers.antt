-- `swift_values::quick_amounts::in_cents` meets its contract.
use Prim.Native.Nat.{◌+◌}
use mathlib.Core.Bool.{◌&&◌}
use borrow.Author.Tests.{eqb-true}
use lib.Dec.{eqb}
use lib.ListN.{get_or}
use Rattle.swift_values.proofs.Lanes.{and_split}
use Rattle.swift_values.proofs.quick_amounts.in_cents.Goals as goal

pub returns : goal.returns
returns c =
    λ e.
    let m = c.args.m.now in
    let q = c.args.q in
    let x = and_split (eqb (get_or m q 0) 46 && c.digit_pair.result) (eqb (get_or m (q + 3) 0) 60) e in
    let y = and_split (eqb (get_or m q 0) 46) c.digit_pair.result x.0 in
    record { point = eqb-true (get_or m q 0) 46 y.0; digits = c.digit_pair.ensures y.1; behind = eqb-true (get_or m (q + 3) 0) 60 x.1 }
