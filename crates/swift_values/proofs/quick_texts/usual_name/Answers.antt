-- `swift_values::quick_texts::usual_name` meets its contract.
use Rattle.std.proofs.Common.{rules}
use native.Mathlib.Omega.{arith}
use Rattle.swift_values.specs.Lanes.{text_one}
use Rattle.swift_values.proofs.Lanes.{run_of}
use Rattle.swift_values.proofs.quick_texts.usual_name.Goals as goal

pub name_of-requires : goal.name_of-requires
name_of-requires c =
    let h = c.room.ensures c.if-not-room.false in
    let n = c.passing in
    (h.0, omega (arith, h, n.ensures.0), omega (arith, n.ensures.0), run_of _ _ _ text_one (λ b x e. search rules) _ n.ensures.1)
