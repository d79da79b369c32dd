-- `swift_values::quick_ibans::digits_20` meets its contract.
use native.Mathlib.Omega.{arith}
use Prim.Native.Nat.{◌+◌}
use mathlib.Core.Bool.{◌&&◌}
use Rattle.text.specs.Classes.{digit}
use Rattle.swift_values.proofs.Blocks.{all_join}
use Rattle.swift_values.proofs.Lanes.{and_split}
use Rattle.swift_values.proofs.quick_ibans.digits_20.Goals as goal

pub returns : goal.returns
returns c =
    λ e.
    let the-args = c.args in
    let first = c.digits in
    let second = c.digits-2 in
    let third = c.digits-3 in
    let m = the-args.m.now in
    let p = the-args.p in
    let x = and_split (first.result && second.result) third.result e in
    let y = and_split first.result second.result x.0 in
    let z = all_join digit m p 8 (p + 8) 8 (first.ensures y.0) (second.ensures y.1) (omega arith) (omega arith) 16 (omega arith) in
    all_join digit m p 16 (p + 12) 8 z (third.ensures x.1) (omega arith) (omega arith) 20 (omega arith)
