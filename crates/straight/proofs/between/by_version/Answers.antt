-- `straight::between::by_version` meets its contract.
use Rattle.std.proofs.Common.{refl, arith}
use Rattle.straight.proofs.between.by_version.Goals as goal

pub returns-in-V02 : goal.returns-in-V02
returns-in-V02 c = rw c.in-V02.is (refl, omega arith)

pub returns-in-V08 : goal.returns-in-V08
returns-in-V08 c = rw c.in-V08.is (refl, omega arith)
