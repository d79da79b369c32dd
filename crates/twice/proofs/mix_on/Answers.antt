-- `twice::mix_on` meets its contract.
use Rattle.std.proofs.Common.{refl}
use Rattle.twice.specs.Engine.{mix_on}
use Rattle.twice.proofs.mix_on.Goals as goal

pub returns : goal.returns
unfolding mix_on
returns c = refl
