-- `notes::State::with_item` meets its contract.
use borrow.Author.Tests.{eq-eqb, ne_eqb}
use Rattle.notes.proofs.State.with_item.Goals as goal
use Rattle.notes.proofs.State.with_item.Goals.{then-self-eq0, else-self-eq0}

pub returns : goal.returns
returns c =
    elim c.if-self-eq0.branch [
      | then-self-eq0 w ↦ rw (w.self-is, eq-eqb c.args.self.notes.count 0 w.if-self-eq0.true)
      | else-self-eq0 w ↦ rw (w.self-is, ne_eqb c.args.self.notes.count 0 w.if-self-eq0.false)
    ]
