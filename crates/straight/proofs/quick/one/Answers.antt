-- `straight::quick::one` meets its contract.
use Rattle.std.proofs.Common.{arith}
use Rattle.straight.proofs.quick.one.Goals as goal

pub returns-else-b : goal.returns-else-b
returns-else-b c = (omega arith, λ h. absurd (let z : ⊥ = omega arith in z))
