-- `straight::part::Message::item_head` meets its contract.
use Rattle.straight.proofs.Groups.{opened, next, refused, handed_on}
use Rattle.tags.specs.Tags.{plain_tag}
use Rattle.reading.specs.Trace.{trace}
use Rattle.straight.specs.Pieces.{pmt_id}
use Rattle.straight.specs.Exact.{open_of, type_of}
use Rattle.straight.proofs.Wholes.{keeps, open_keeps, payment_keeps, type_keeps}
use Rattle.straight.proofs.part.Message.item_head.Goals as goal

pub amount-requires : goal.amount-requires
amount-requires c =
    let m = c.args.self.m.now in
    let i = keeps 1 (open_of (plain_tag "PmtId") m) (open_keeps m 1 (plain_tag "PmtId")) _ _ c.requires.1 c.in_ok-st.ensures.0 in
    let j = keeps 1 (trace pmt_id m) (payment_keeps m) _ _ i c.in_ok-st-2.ensures.is in
    (c.in_ok-st-3.ensures.fine.0, keeps 1 (type_of m) (type_keeps m) _ _ j c.in_ok-st-3.ensures.is)

pub returns-in_err-st : goal.returns-in_err-st
returns-in_err-st c = handed_on _ _ c.from_residual.ensures.1 (refused _ (refused _ (refused _ (refused _ (refused _ (opened _ _ c.in_err-st.ensures))))))

pub returns-in_err-st-2 : goal.returns-in_err-st-2
returns-in_err-st-2 c = handed_on _ _ c.from_residual-in_err-st-2.ensures.1 (refused _ (refused _ (refused _ (refused _ (next _ (opened _ _ c.in_ok-st.ensures) c.in_err-st-2.ensures)))))

pub returns-in_err-st-3 : goal.returns-in_err-st-3
returns-in_err-st-3 c =
    handed_on _ _ c.from_residual-in_err-st-3.ensures.1
    (refused _ (refused _ (refused _ (next _ (next _ (opened _ _ c.in_ok-st.ensures) c.in_ok-st-2.ensures) c.in_err-st-3.ensures))))

pub returns-in_err-st-4 : goal.returns-in_err-st-4
returns-in_err-st-4 c =
    handed_on _ _ c.from_residual-in_err-st-4.ensures.1
    (refused _ (refused _ (next _ (next _ (next _ (opened _ _ c.in_ok-st.ensures) c.in_ok-st-2.ensures) c.in_ok-st-3.ensures) c.in_err-st-4.ensures)))

pub returns-in_err-st-5 : goal.returns-in_err-st-5
returns-in_err-st-5 c =
    handed_on _ _ c.from_residual-in_err-st-5.ensures.1
    (refused _ (next _ (next _ (next _ (next _ (opened _ _ c.in_ok-st.ensures) c.in_ok-st-2.ensures) c.in_ok-st-3.ensures) c.in_ok-st-4.ensures) c.in_err-st-5.ensures))

pub returns : goal.returns
returns c = (next _ (next _ (next _ (next _ (next _ (opened _ _ c.in_ok-st.ensures) c.in_ok-st-2.ensures) c.in_ok-st-3.ensures) c.in_ok-st-4.ensures) c.in_ok-st-5.ensures) c.leaf-2.ensures)
