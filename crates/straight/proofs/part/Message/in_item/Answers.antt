-- `straight::part::Message::in_item` meets its contract.
use Rattle.straight.proofs.Groups.{next, refused, handed_on}
use Rattle.straight.proofs.Elements.{makes_as}
use Rattle.straight.proofs.Wholes.{item_is}
use Rattle.straight.proofs.part.Message.in_item.Goals as goal

pub returns-in_err-st : goal.returns-in_err-st
returns-in_err-st c = handed_on _ _ c.from_residual.ensures.1 (makes_as _ _ _ _ _ (item_is _ _ _ _ _) _ _ (refused _ (refused _ c.in_err-st.ensures)))

pub returns-in_err-st-2 : goal.returns-in_err-st-2
returns-in_err-st-2 c = handed_on _ _ c.from_residual-in_err-st-2.ensures.1 (makes_as _ _ _ _ _ (item_is _ _ _ _ _) _ _ (refused _ (next _ c.in_ok-st.ensures c.in_err-st-2.ensures)))

pub returns : goal.returns
returns c = makes_as _ _ _ _ _ (item_is _ _ _ _ _) _ _ ((next _ (next _ c.in_ok-st.ensures c.in_ok-st-2.ensures) c.item_last.ensures))
