-- `swift_values::end_of` meets its contract.
use native.Mathlib.Omega.{arith}
use Rattle.swift_values.proofs.Any.{upto_within, ends_here}
use Rattle.swift_values.proofs.end_of.Goals as goal

pub overflow_add-e : goal.overflow_add-e
overflow_add-e c = omega (arith, upto_within c.args.m.now c.args.at c.upto.result (omega arith) c.upto.ensures)

pub returns-else-e-m : goal.returns-else-e-m
returns-else-e-m c = ends_here c.args.m.now c.args.at c.upto.result (omega arith) c.upto.ensures (omega arith) c.if-e-m.false
