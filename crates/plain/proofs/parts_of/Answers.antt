-- `plain::parts_of` meets its contract.
use Rattle.plain.proofs.Values.{digits_fit, amount_is}
use Rattle.plain.proofs.parts_of.Goals as goal

pub split_at-requires : goal.split_at-requires
split_at-requires c = digits_fit c.args.v.now c.run_in.result c.run_in.ensures

pub returns : goal.returns
returns c = amount_is c.args.v.now c.run_in.result c.run_in.ensures _ _ c.split_at.ensures.front c.split_at.ensures.back c.needless.result c.needless.ensures.0
