-- `play::lay_flat` meets its contract.
use Rattle.play.proofs.Tables.{flat_table}
use Rattle.play.proofs.lay_flat.Goals as goal

pub returns : goal.returns
returns c = flat_table c.args.t
