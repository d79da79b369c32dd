-- `swift_values::quick_dates::days_of` meets its contract.
use native.Mathlib.Omega.{arith}
use Prim.Native.Nat.{◌-◌}
use Rattle.swift_values.proofs.Dates.{days_28, days_30, days_31}
use Rattle.swift_values.proofs.quick_dates.days_of.Goals as goal

pub returns-in-530 : goal.returns-in-530
returns-in-530 c = λ y. omega (arith, days_28 y (c.args.month - 528))

pub returns-in-532 : goal.returns-in-532
returns-in-532 c = λ y. omega (arith, days_30 y (c.args.month - 528) (λ e. omega (arith, c.in-532.is)))

pub returns-in_default : goal.returns-in_default
returns-in_default c =
    λ y.
    omega (
      arith,
      days_31 y (c.args.month - 528) (λ e. grind arith) (λ e. grind arith) (λ e. grind arith) (λ e. grind arith) (λ e. grind arith),
    )
