-- `twice::number_in` meets its contract.
use Rattle.std.proofs.Common.{rules}
use Rattle.twice.specs.Twice.{least_index}
use Rattle.twice.specs.Engine.{number_in}
use Rattle.twice.proofs.number_in.Goals as goal

pub returns : goal.returns
unfolding number_in least_index
returns c = search rules
