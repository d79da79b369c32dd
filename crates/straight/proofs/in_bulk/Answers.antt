-- `straight::in_bulk` meets its contract.
use Rattle.straight.proofs.Groups.{opened, next, refused, handed_on}
use Rattle.tags.specs.Tags.{plain_tag}
use Rattle.profile.specs.Profile.{header_name, in_header}
use Rattle.reading.specs.Trace.{trace}
use Rattle.straight.specs.Exact.{open_of, due_item}
use Rattle.straight.proofs.Groups.{same_is}
use Rattle.straight.proofs.Wholes.{keeps, open_keeps}
use Rattle.straight.proofs.Frame.{header_keeps, first_keeps, bulk_is}
use Rattle.straight.proofs.in_bulk.Goals as goal

pub first_item-requires : goal.first_item-requires
first_item-requires c =
    let m = c.args.source.m.now in
    let i = keeps 0 (open_of (plain_tag header_name) m) (open_keeps m 0 (plain_tag header_name)) _ _ c.requires.1 c.in_ok-st.ensures.0 in
    (c.in_ok-st-2.ensures.fine.0, keeps 0 (trace (in_header c.args.source.v) m) (header_keeps c.args.source.v m) _ _ i c.in_ok-st-2.ensures.is)

pub more_items-requires : goal.more_items-requires
more_items-requires c =
    let m = c.args.source.m.now in
    let v = c.args.source.v in
    let i = keeps 0 (open_of (plain_tag header_name) m) (open_keeps m 0 (plain_tag header_name)) _ _ c.requires.1 c.in_ok-st.ensures.0 in
    let j = keeps 0 (trace (in_header v) m) (header_keeps v m) _ _ i c.in_ok-st-2.ensures.is in
    (c.in_ok-st-3.ensures.fine.0, keeps 0 (due_item v m) (first_keeps v m) _ _ j c.in_ok-st-3.ensures.is, c.requires.2)

pub returns-in_err-st : goal.returns-in_err-st
returns-in_err-st c = handed_on _ _ c.from_residual.ensures.1 (same_is (bulk_is _ _ _) (refused _ (refused _ (refused _ (opened _ _ c.in_err-st.ensures)))))

pub returns-in_err-st-2 : goal.returns-in_err-st-2
returns-in_err-st-2 c = handed_on _ _ c.from_residual-in_err-st-2.ensures.1 (same_is (bulk_is _ _ _) (refused _ (refused _ (next _ (opened _ _ c.in_ok-st.ensures) c.in_err-st-2.ensures))))

pub returns-in_err-st-3 : goal.returns-in_err-st-3
returns-in_err-st-3 c =
    handed_on _ _ c.from_residual-in_err-st-3.ensures.1
    (same_is (bulk_is _ _ _) (refused _ (next _ (next _ (opened _ _ c.in_ok-st.ensures) c.in_ok-st-2.ensures) c.in_err-st-3.ensures)))

pub returns : goal.returns
returns c = same_is (bulk_is _ _ _) ((next _ (next _ (next _ (opened _ _ c.in_ok-st.ensures) c.in_ok-st-2.ensures) c.in_ok-st-3.ensures) c.more_items.ensures))
