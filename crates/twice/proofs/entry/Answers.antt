-- `twice::entry` meets its contract.
use Rattle.std.proofs.Common.{arith, rules}
use Rattle.twice.specs.Twice.{least_index}
use Rattle.twice.specs.Engine.{entry_of}
use Rattle.twice.proofs.entry.Goals as goal

pub overflow_add-result : goal.overflow_add-result
unfolding least_index
overflow_add-result c = omega arith

pub returns : goal.returns
unfolding entry_of least_index
returns c = search rules
