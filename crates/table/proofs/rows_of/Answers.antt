-- `table::rows_of` meets its contract: each constant is the table of its version's tree, by computation.
use mathlib.Core.Path.{sym, ap}
use Rattle.profile.specs.Profile.{is_type, profile}
use Rattle.table.specs.Table.{table}
use Rattle.table.proofs.rows_of.Goals as goal

pub returns-in-V02 : goal.returns-in-V02
unfolding table is_type profile
returns-in-V02 c = ap table (sym c.in-V02.is)

pub returns-in-V08 : goal.returns-in-V08
unfolding table is_type profile
returns-in-V08 c = ap table (sym c.in-V08.is)
