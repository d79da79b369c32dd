-- `table::item_row` meets its contract: the constant is the row of each version's tree, by computation.
use mathlib.Core.Path.{◌≡◌, refl}
use Rattle.profile.specs.declared.Version.{Version}
use Rattle.profile.specs.declared.Version.TheVariants.{V02, V08}
use Rattle.profile.specs.Profile.{in_header}
use Rattle.table.specs.Table.{item_row}
use Rattle.table.proofs.item_row.Goals as goal

of_each : (v : Version) → 25 ≡ item_row v
unfolding item_row in_header
of_each V02 = refl
of_each V08 = refl

pub returns : goal.returns
returns c = of_each
