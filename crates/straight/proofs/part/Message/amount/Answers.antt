-- `straight::part::Message::amount` meets its contract.
use Rattle.straight.proofs.Groups.{next, refused, handed_on}
use Rattle.straight.proofs.Amounts.{entered}
use Rattle.tags.specs.Tags.{amount_tag}
use Rattle.notes.specs.Steps.{Room}
use Rattle.straight.proofs.Amounts.{enter_behind}
use Rattle.straight.proofs.part.Message.amount.Goals as goal

pub sum_value-requires : goal.sum_value-requires
sum_value-requires c =
    let a = c.args in
    let h = enter_behind a.self.m.now (amount_tag "IntrBkSttlmAmt") a.st.at a.st.notes _ (Room 1) c.in_ok-st.ensures.0 c.requires.1 in
    (c.in_ok-st.ensures.1.0, h)

pub returns-in_err-st : goal.returns-in_err-st
returns-in_err-st c = handed_on _ _ c.from_residual.ensures.1 (refused _ (entered _ _ c.in_err-st.ensures))

pub returns : goal.returns
returns c = (next _ (entered _ _ c.in_ok-st.ensures) c.sum_value.ensures)
