-- `swift_values::quick_codes::instrument` meets its contract.
use native.Mathlib.Omega.{arith}
use mathlib.Core.Path.{refl}
use Rattle.swift_values.proofs.Codes.{core, b2b_stands}
use Rattle.swift_values.proofs.quick_codes.instrument.Goals as goal

pub returns-then-are : goal.returns-then-are
returns-then-are c = (omega arith, b2b_stands c.args.m.now c.args.at c.requires.0 c.requires.1 (c.are.ensures c.if-are.true))

pub coded-requires : goal.coded-requires
coded-requires c = (c.requires.0, c.requires.1, omega arith, refl, core)
