-- `notes::State::begin_item` meets its contract.
use mathlib.Core.Path.{◌∙◌, ap}
use Rattle.reading.specs.Noted.{on}
use Rattle.notes.proofs.Notings.{begins, too_many_lem}
use Rattle.notes.proofs.State.begin_item.Goals as goal

pub returns-then-self-lt-MOST_ITEMS : goal.returns-then-self-lt-MOST_ITEMS
returns-then-self-lt-MOST_ITEMS c = ap on c.with_item.ensures ∙ begins c.args.self.at c.args.self.notes c.if-self-lt-MOST_ITEMS.true

pub returns : goal.returns
returns c = rw c.at.ensures (too_many_lem c.args.self.at c.args.self.notes c.if-self-lt-MOST_ITEMS.false)
