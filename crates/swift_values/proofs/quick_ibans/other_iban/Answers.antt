-- `swift_values::quick_ibans::other_iban` meets its contract.
use Rattle.std.proofs.Common.{rules}
use native.Mathlib.Omega.{arith}
use Rattle.swift_values.specs.Lanes.{cap_one}
use mathlib.Core.Path.{sym, ◌∙◌}
use Rattle.swift_values.proofs.Lanes.{run_of}
use Rattle.swift_values.proofs.Blocks.{run_caps}
use Rattle.swift_values.proofs.Ibans.{iban_stands}
use Rattle.swift_values.proofs.quick_ibans.other_iban.Goals as goal

pub checked-requires : goal.checked-requires
checked-requires c = (omega arith, omega (arith, c.in_ok-k.ensures.least), run_caps _ _ _ (run_of _ _ _ cap_one (λ b x e. search rules) _ c.passing-n.ensures.1))

pub returns-then-checked : goal.returns-then-checked
returns-then-checked c =
    let h = c.room.ensures c.if-not-room.false in
    let k = c.in_ok-k.ensures in
    let z = k.is ∙ sym c.if-n-k.true in
    iban_stands c.args.m.now c.args.at c.passing-n.result h.0 (omega arith) c.if-m-at-eq60.true (c.checked.ensures c.if-checked.true) z (omega (arith, k.least)) (omega (arith, k.most))
