-- `swift_values::quick_codes::sequence` meets its contract.
use native.Mathlib.Omega.{arith}
use mathlib.Core.Path.{refl}
use Rattle.swift_values.proofs.Codes.{frst, rcur, fnal, ooff}
use Rattle.swift_values.proofs.quick_codes.sequence.Goals as goal

pub coded-requires : goal.coded-requires
coded-requires c = (c.requires.0, c.requires.1, omega arith, refl, rcur)

pub coded-requires-in-79 : goal.coded-requires-in-79
coded-requires-in-79 c = (c.requires.0, c.requires.1, omega arith, refl, ooff)

pub coded-requires-in-70 : goal.coded-requires-in-70
coded-requires-in-70 c = (c.requires.0, c.requires.1, omega arith, refl, frst)

pub coded-requires-in_default : goal.coded-requires-in_default
coded-requires-in_default c = (c.requires.0, c.requires.1, omega arith, refl, fnal)
