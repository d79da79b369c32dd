-- `twice::upper_of` meets its contract.
use Rattle.std.proofs.Common.{rules}
use Rattle.twice.specs.Twice.{least_index}
use Rattle.twice.specs.Engine.{upper_of}
use Rattle.twice.proofs.upper_of.Goals as goal

pub returns : goal.returns
unfolding upper_of least_index
returns c = search rules
