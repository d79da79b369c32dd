-- `naming::put` meets its contract.
use Rattle.std.proofs.Common.{rules}
use Rattle.naming.proofs.Filled.{put_whole}
use Rattle.naming.proofs.put.Goals as goal

pub returns : goal.returns
returns c =
    put_whole c.args.part.now c.args.value.now c.copy_from_slice.new.self c.fill.new.self c.min-n.result c.min-n.ensures (search rules) (c.fill.ensures.after (λ y q. search rules))
