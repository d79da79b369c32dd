-- `swift_values::quick_identifiers::quick_identifier` meets its contract.
use Rattle.std.proofs.Common.{rules}
use native.Mathlib.Omega.{arith}
use Prim.Native.Nat.{◌+◌}
use mathlib.Core.Path.{◌≡◌}
use Rattle.swift_values.specs.Lanes.{ref_one}
use Rattle.swift_values.proofs.Lanes.{run_of}
use Rattle.swift_values.proofs.Blocks.{run_refs}
use Rattle.swift_values.proofs.Identifiers.{identifier_stands}
use Rattle.swift_values.proofs.quick_identifiers.quick_identifier.Goals as goal

pub identified-requires : goal.identified-requires
identified-requires c = (omega arith, (c.ended.ensures c.if-ended.true).0, run_refs _ _ _ (run_of _ _ _ ref_one (λ b x e. search rules) _ c.passing-k.ensures.1))

pub returns-then-identified : goal.returns-then-identified
returns-then-identified c =
    let p = c.args.at in
    let k = c.passing-k.result in
    let h = c.room.ensures c.if-not-room.false in
    let e = c.ended.ensures c.if-ended.true in
    identifier_stands c.args.m.now p k h.0 (omega arith) (let z : p + 7 + k ≡ p + (7 + k) = omega arith in rw z at e.1) (c.identified.ensures c.if-identified.true) e.0 (omega arith)
