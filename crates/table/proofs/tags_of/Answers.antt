-- `table::tags_of` meets its contract: each constant is the text of its version's tags, by computation.
use mathlib.Core.Path.{sym, ap}
use Rattle.profile.specs.Profile.{profile}
use Rattle.table.specs.Table.{tags}
use Rattle.table.proofs.tags_of.Goals as goal

pub returns-in-V02 : goal.returns-in-V02
unfolding tags profile
returns-in-V02 c = ap tags (sym c.in-V02.is)

pub returns-in-V08 : goal.returns-in-V08
unfolding tags profile
returns-in-V08 c = ap tags (sym c.in-V08.is)
