-- `straight::part::Message::total` meets its contract.
use Rattle.straight.proofs.Groups.{next, refused, handed_on}
use Rattle.straight.proofs.Amounts.{entered}
use Rattle.straight.proofs.part.Message.total.Goals as goal

pub returns-in_err-st : goal.returns-in_err-st
returns-in_err-st c = handed_on _ _ c.from_residual.ensures.1 (refused _ (entered _ _ c.in_err-st.ensures))

pub returns : goal.returns
returns c = (next _ (entered _ _ c.in_ok-st.ensures) c.value.ensures)
