-- `swift_values::quick_dates::days_for` meets its contract.
use native.Mathlib.Omega.{arith}
use Prim.Native.Nat.{◌-◌}
use Rattle.swift_values.proofs.Dates.{days_28}
use Rattle.swift_values.proofs.quick_dates.days_for.Goals as goal

pub returns-then-day-le556 : goal.returns-then-day-le556
returns-then-day-le556 c = λ y. omega (arith, days_28 y (c.args.month - 528))

pub returns : goal.returns
returns c = c.days_of.ensures
