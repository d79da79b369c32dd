-- `table::digits` meets its contract: what is left of a division by at most 65536 fits.
use Prim.Native.Nat.{◌/◌}
use native.Mathlib.Nat.{mod-lt}
use native.Mathlib.Omega.{arith}
use Rattle.table.proofs.digits.Goals as goal

pub overflow_cast-result : goal.overflow_cast-result
overflow_cast-result c = record { fits = omega (arith, mod-lt (c.args.n / c.args.below) c.requires.1) }
