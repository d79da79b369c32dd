-- `swift_values::quick_codes::quick_code` meets its contract.
use native.Mathlib.Omega.{arith}
use mathlib.Core.Path.{refl}
use Rattle.swift_values.proofs.Codes.{clrg, sepa, slev, prtry}
use Rattle.swift_values.proofs.quick_codes.quick_code.Goals as goal

pub coded-requires : goal.coded-requires
coded-requires c =
    let h = c.room.ensures c.if-not-room.false in
    (h.0, h.1, omega arith, refl, clrg)

pub coded-requires-in-SvcLvl : goal.coded-requires-in-SvcLvl
coded-requires-in-SvcLvl c =
    let h = c.room.ensures c.if-not-room.false in
    (h.0, h.1, omega arith, refl, sepa)

pub coded-requires-in-ChrgBr : goal.coded-requires-in-ChrgBr
coded-requires-in-ChrgBr c =
    let h = c.room.ensures c.if-not-room.false in
    (h.0, h.1, omega arith, refl, slev)

pub coded-requires-in-Prtry : goal.coded-requires-in-Prtry
coded-requires-in-Prtry c =
    let h = c.room.ensures c.if-not-room.false in
    (h.0, h.1, omega arith, refl, prtry)
