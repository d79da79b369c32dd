-- `straight::part::Message::agent` meets its contract.
use Rattle.straight.proofs.part.Message.agent.Goals as goal
use Rattle.straight.proofs.part.Message.agent.Goals.{in-V02, in-V08}

pub returns : goal.returns
returns c = elim c.match-self.branch [
  | in-V02 w ↦ rw w.in-V02.is (rw w.bic-is at c.two.ensures)
  | in-V08 w ↦ rw w.in-V08.is (rw w.bic-is at c.two.ensures)
]
