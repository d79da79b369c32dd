-- `twice::strew` meets its contract.
use Rattle.std.proofs.Common.{refl}
use Rattle.twice.specs.Engine.{lowered, raised, strewn}
use Rattle.twice.proofs.strew.Goals as goal

pub returns : goal.returns
unfolding strewn lowered raised
returns c = refl
