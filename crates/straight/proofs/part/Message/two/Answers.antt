-- `straight::part::Message::two` meets its contract.
use Rattle.straight.proofs.Groups.{opened, ended, next, refused, handed_on}
use Rattle.straight.proofs.part.Message.two.Goals as goal

pub returns-in_err-st : goal.returns-in_err-st
returns-in_err-st c = handed_on _ _ c.from_residual.ensures.1 (refused _ (refused _ (opened _ _ c.in_err-st.ensures)))

pub returns-in_err-st-2 : goal.returns-in_err-st-2
returns-in_err-st-2 c = handed_on _ _ c.from_residual-in_err-st-2.ensures.1 (refused _ (next _ (opened _ _ c.in_ok-st.ensures) c.in_err-st-2.ensures))

pub returns : goal.returns
returns c = (next _ (next _ (opened _ _ c.in_ok-st.ensures) c.in_ok-st-2.ensures) (ended _ _ c.end_tag.ensures))
