-- `check97::Group::joined` meets its contract: the group is taken, and the digits begin the next; or it grows.
use native.Mathlib.Omega.{arith}
use mathlib.Core.Path.{ap}
use Prim.Native.Nat.{ℕ, ◌%◌}
use Rattle.check97.proofs.Modulo.{continued}
use Rattle.check97.proofs.Group.joined.Goals as goal

pub returns-then-weight-gt-SEVEN : goal.returns-then-weight-gt-SEVEN
returns-then-weight-gt-SEVEN c = continued c.taken.result c.args.self c.args.w c.args.v (omega (arith, c.taken.ensures))

pub returns : goal.returns
returns c = rw (← c.self.view_is) (ap (λ (n : ℕ). n % 97) (omega arith))
