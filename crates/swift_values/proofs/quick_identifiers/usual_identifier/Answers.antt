-- `swift_values::quick_identifiers::usual_identifier` meets its contract.
use native.Mathlib.Omega.{arith}
use Prim.Native.Nat.{◌+◌}
use mathlib.Core.Path.{◌≡◌}
use Rattle.swift_values.proofs.Identifiers.{identifier_stands}
use Rattle.swift_values.proofs.Values.{if_passed}
use Rattle.swift_values.proofs.quick_identifiers.usual_identifier.Goals as goal

pub returns : goal.returns
returns c =
    let e = c.in_ok-e.ensures in
    let z : c.in_ok-e.e ≡ c.args.at + 7 + 11 = omega arith in
    rw c.then_some.ensures (if_passed c.identified_18.result c.in_ok-e.e _ (λ t.
    rw z (identifier_stands c.args.m.now c.args.at 11 e.0 (omega arith) (rw e.1 at e.3) (c.identified_18.ensures t) (omega arith) (omega arith))))
