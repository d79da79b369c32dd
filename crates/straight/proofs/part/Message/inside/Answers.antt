-- `straight::part::Message::inside` meets its contract.
use Rattle.straight.proofs.Groups.{ended, next, refused, handed_on}
use Rattle.straight.proofs.part.Message.inside.Goals as goal

pub returns-in_err-st : goal.returns-in_err-st
returns-in_err-st c = handed_on _ _ c.from_residual.ensures.1 (refused _ c.in_err-st.ensures)

pub returns : goal.returns
returns c = (next _ c.in_ok-st.ensures (ended _ _ c.end_tag.ensures))
