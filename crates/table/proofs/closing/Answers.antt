-- `table::closing` meets its contract: the text of the tag is the piece behind the start tag.
use Rattle.table.specs.Table.{closes_by}
use Rattle.table.proofs.closing.Goals as goal

pub returns : goal.returns
unfolding closes_by
returns c = rw (← (rw (c.from.ensures, c.from-2.ensures, c.from-3.ensures) at c.piece.ensures)) c.text_at.ensures
