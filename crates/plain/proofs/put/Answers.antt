-- `plain::put` meets its contract.
use Rattle.tags.specs.Tags.{declaration}
use Rattle.plain.specs.Engine.{pieces}
use Rattle.plain.proofs.Pieces.{front_laid}
use Rattle.plain.proofs.put.Goals as goal

pub returns : goal.returns
returns c = rw (c.copy_from_slice.ensures.after, c.fill.ensures, c.split_at_mut-first.ensures.back, c.declaration.ensures) (front_laid declaration (pieces c.args.s.now) c.args.area.now)
