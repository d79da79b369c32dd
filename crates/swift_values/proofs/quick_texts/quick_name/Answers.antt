-- `swift_values::quick_texts::quick_name` meets its contract.
use native.Mathlib.Omega.{arith}
use Rattle.swift_values.proofs.quick_texts.quick_name.Goals as goal

pub name_of-requires : goal.name_of-requires
name_of-requires c =
    let h = c.room.ensures c.if-not-room.false in
    (h.0, omega (arith, h, c.text_run.ensures.0), omega (arith, c.text_run.ensures.0), c.text_run.ensures.1)
