-- `table::field_of` meets its contract: no other number is one of the list.
use Rattle.std.proofs.Common.{rules}
use Rattle.table.proofs.Numbers.{other_field}
use Rattle.table.proofs.field_of.Goals as goal

pub returns-in_default : goal.returns-in_default
returns-in_default c = other_field c.args.n (search rules)
