-- `tags::currency_place` meets its contract.
use Rattle.std.proofs.Common.{rules}
use Rattle.tags.specs.Tags.{currency_place}
use Rattle.tags.proofs.currency_place.Goals as goal

pub returns : goal.returns
unfolding currency_place
returns c = search rules
