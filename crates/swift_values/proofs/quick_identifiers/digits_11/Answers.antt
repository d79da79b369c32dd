-- `swift_values::quick_identifiers::digits_11` meets its contract.
use native.Mathlib.Omega.{arith}
use Prim.Native.Nat.{◌+◌}
use Rattle.text.specs.Classes.{digit}
use Rattle.swift_values.proofs.Blocks.{all_join}
use Rattle.swift_values.proofs.Lanes.{and_split}
use Rattle.swift_values.proofs.quick_identifiers.digits_11.Goals as goal

pub returns : goal.returns
returns c =
    λ e.
    let m = c.args.m.now in
    let p = c.args.p in
    let x = and_split c.digits.result c.digits-2.result e in
    all_join digit m p 8 (p + 3) 8 (c.digits.ensures x.0) (c.digits-2.ensures x.1) (omega arith) (omega arith) 11 (omega arith)
