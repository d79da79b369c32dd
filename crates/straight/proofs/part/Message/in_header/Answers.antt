-- `straight::part::Message::in_header` meets its contract.
use Rattle.straight.proofs.Groups.{ended, next, refused, handed_on}
use Rattle.straight.proofs.Groups.{same_is}
use Rattle.straight.proofs.Wholes.{header_is}
use Rattle.straight.proofs.part.Message.in_header.Goals as goal

pub returns-in_err-st : goal.returns-in_err-st
returns-in_err-st c = handed_on _ _ c.from_residual.ensures.1 (same_is (header_is _ _ _) (refused _ (refused _ (refused _ (refused _ c.in_err-st.ensures)))))

pub returns-in_err-st-2 : goal.returns-in_err-st-2
returns-in_err-st-2 c = handed_on _ _ c.from_residual-in_err-st-2.ensures.1 (same_is (header_is _ _ _) (refused _ (refused _ (refused _ (next _ c.in_ok-st.ensures c.in_err-st-2.ensures)))))

pub returns-in_err-st-3 : goal.returns-in_err-st-3
returns-in_err-st-3 c =
    handed_on _ _ c.from_residual-in_err-st-3.ensures.1
    (same_is (header_is _ _ _) (refused _ (refused _ (next _ (next _ c.in_ok-st.ensures c.in_ok-st-2.ensures) c.in_err-st-3.ensures))))

pub returns-in_err-st-4 : goal.returns-in_err-st-4
returns-in_err-st-4 c =
    handed_on _ _ c.from_residual-in_err-st-4.ensures.1
    (same_is (header_is _ _ _) (refused _ (next _ (next _ (next _ c.in_ok-st.ensures c.in_ok-st-2.ensures) c.in_ok-st-3.ensures) c.in_err-st-4.ensures)))

pub returns : goal.returns
returns c = same_is (header_is _ _ _) ((next _ (next _ (next _ (next _ c.in_ok-st.ensures c.in_ok-st-2.ensures) c.in_ok-st-3.ensures) c.in_ok-st-4.ensures) (ended _ _ c.end_tag.ensures)))
