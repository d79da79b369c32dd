-- `reader::item` meets its contract.
use mathlib.Core.Path.{◌≡◌, ◌∙◌, ap, sym, refl}
use lib.ListN.{length, drop}
use Rattle.std.proofs.lemmas.Result.{err_from_is_err_and}
use Rattle.tags.specs.Tags.{look}
use Rattle.notes.specs.Steps.{stated, stepped, Fine}
use Rattle.engine.specs.Engine.{item_at}
use Rattle.engine.proofs.Whole.{item_long, item_far, begins, item_enters, item_cut, item_other}
use Rattle.reader.proofs.Room.{item_room}
use Rattle.reader.proofs.Whole.{item_read, item_start, item_below, item_there, item_within}
use Rattle.engine.proofs.Steps.{lies_whole, lies_not}
use Rattle.reader.proofs.Steps.{refused_at}
use Rattle.reader.proofs.item.Goals.{then-m-gt-MOST_BYTES-via-then-m-gt-MOST_BYTES, then-m-gt-MOST_BYTES-via-else-m-gt-MOST_BYTES+then-m-at}
use Rattle.reader.proofs.item.Goals as goal

pub returns-then-m-gt-MOST_BYTES : goal.returns-then-m-gt-MOST_BYTES
returns-then-m-gt-MOST_BYTES c =
    let a = c.args in
    let e = refused_at _ _ c.at.ensures in
    elim c.then-m-gt-MOST_BYTES.branch [
      | then-m-gt-MOST_BYTES-via-then-m-gt-MOST_BYTES w ↦ item_long a.v a.m.now a.at w.if-m-gt-MOST_BYTES.true _ e
      | then-m-gt-MOST_BYTES-via-else-m-gt-MOST_BYTES+then-m-at w ↦ item_far a.v a.m.now a.at w.if-m-gt-MOST_BYTES.false w.if-m-at.true _ e
    ]

pub skip-q-requires : goal.skip-q-requires
skip-q-requires c =
    let a = c.args in
    let the-if1 = c.if-m-gt-MOST_BYTES in
    let the-new3 = c.new-st in
    begins a.v a.m.now a.at the-if1.false c.if-m-at.false (stated the-new3.result) the-new3.ensures

pub element-requires : goal.element-requires
element-requires c =
    let a = c.args in
    let the-new3 = c.new-st in
    let the-tags-of = c.tags_of-names in
    let the-rows-of = c.rows_of-rows in
    let the-skip = c.skip-q in
    let the-item-row = c.item_row-k in
    let the-row-at = c.row_at in
    let the-start-at = c.start_at in (
      the-skip.ensures.1,
      item_below a.v the-tags-of.result the-rows-of.result the-row-at.result the-item-row.result the-tags-of.ensures the-rows-of.ensures
          (the-item-row.ensures a.v) the-row-at.ensures,
      item_there a.v the-tags-of.result the-rows-of.result the-row-at.result the-item-row.result the-tags-of.ensures the-rows-of.ensures
          (the-item-row.ensures a.v) the-row-at.ensures,
      item_within a.v the-tags-of.result the-rows-of.result the-row-at.result the-item-row.result the-tags-of.ensures the-rows-of.ensures
          (the-item-row.ensures a.v) the-row-at.ensures a.m.now the-skip.result.at the-skip.ensures.1.within
          (sym (lies_whole (length a.m.now) c.skip-q.result.at (stated c.skip-q.result) c.start_at.result (c.in_ok-expect_whole.ensures (stated c.skip-q.result))) ∙ the-start-at.ensures),
      the-tags-of.ensures,
      the-rows-of.ensures,
      item_room a.v the-item-row.result (the-item-row.ensures a.v) _ _ (stated the-new3.result) (stated the-skip.result) the-new3.ensures the-skip.ensures.0,
    )

pub returns-in_err-expect_whole : goal.returns-in_err-expect_whole
returns-in_err-expect_whole c =
    let a = c.args in
    let h = c.if-m-gt-MOST_BYTES.false in
    let i = c.if-m-at.false in
    let n = c.new-st in
    let q = c.skip-q in
    let l = c.start_at in
    let k = c.item_row-k in
    let lies = l.ensures ∙ ap (λ t. look t (drop q.result.at a.m.now))
    (item_start a.v c.tags_of-names.result c.rows_of-rows.result c.row_at.result k.result c.tags_of-names.ensures c.rows_of-rows.ensures (k.ensures a.v) c.row_at.ensures) in
    let f = err_from_is_err_and c.from_residual.result c.from_residual.ensures.1 in
    rw (f.1, f.2)
    (lies_not (length a.m.now) q.result.at (stated q.result) (λ x. (x ≡ item_at a.v a.m.now a.at) × Fine a.m.now 0 x) l.result _ _ (c.in_err-expect_whole.ensures (stated q.result))
    (λ e. item_cut a.v a.m.now a.at h i (stated n.result) n.ensures (stated q.result) q.ensures.0 q.ensures.1 l.result lies e _ refl)
    (λ e. item_other a.v a.m.now a.at h i (stated n.result) n.ensures (stated q.result) q.ensures.0 q.ensures.1 l.result lies e _ refl))

pub returns : goal.returns
returns c =
    let a = c.args in
    let h = c.if-m-gt-MOST_BYTES.false in
    let i = c.if-m-at.false in
    let n = c.new-st in
    let q = c.skip-q in
    let l = c.start_at in
    let k = c.item_row-k in
    let lies = l.ensures ∙ ap (λ t. look t (drop q.result.at a.m.now))
    (item_start a.v c.tags_of-names.result c.rows_of-rows.result c.row_at.result k.result c.tags_of-names.ensures c.rows_of-rows.ensures (k.ensures a.v) c.row_at.ensures) in
    let e = lies_whole (length a.m.now) c.skip-q.result.at (stated c.skip-q.result) c.start_at.result (c.in_ok-expect_whole.ensures (stated c.skip-q.result)) in
    item_enters a.v a.m.now a.at h i (stated n.result) n.ensures (stated q.result) q.ensures.0 q.ensures.1 l.result lies e (stepped c.element.result)
    (item_read a.v a.m.now q.result.at q.result.notes k.result (k.ensures a.v) (stepped c.element.result) c.element.ensures.0)
    c.element.ensures.1
