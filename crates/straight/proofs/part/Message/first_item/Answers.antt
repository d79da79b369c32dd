-- `straight::part::Message::first_item` meets its contract.
use Rattle.std.proofs.Common.{◌+◌, ◌≤◌, length, refl, ap, arith}
use Rattle.items.specs.Alone.{item_tag, item_body}
use Rattle.reading.specs.Trace.{fault}
use Rattle.reading.specs.Noted.{Ended}
use Rattle.notes.specs.declared.Notes.{Notes}
use Rattle.notes.specs.Steps.{stated, stepped}
use Rattle.straight.specs.Exact.{due_item, Makes}
use Rattle.engine.proofs.Steps.{lies_whole, lies_not}
use Rattle.straight.proofs.Groups.{tag_within, good_there, by_whole, by_cut, by_other, makes_at, handed_on}
use Rattle.straight.proofs.Elements.{makes_by}
use Rattle.straight.proofs.part.Message.first_item.Goals as goal

pub item-requires : goal.item-requires
item-requires c =
    let s = c.seek-look in
    let a = c.args in
    let h = c.requires in
    let m = a.self.m.now in
    let p = c.at_place in
    let e = lies_whole (length m) s.result.at (stated a.st) s.result.look (c.in_ok-expect_whole.ensures (stated a.st)) in
    let w : s.result.at + 14 ≤ length m = tag_within m a.st.at a.st.notes h.0 item_tag s.result.at s.ensures.0 s.ensures.1 s.result.look s.ensures.2 e in
    let i = ap (λ (z : Ended Notes). z.at) p.ensures in
    let j = ap (λ (z : Ended Notes). z.notes) p.ensures in (
      good_there m a.st.at a.st.notes h.0 item_tag s.result.at s.ensures.0 s.ensures.1 s.result.look s.ensures.2 s.result.at s.ensures.1
          (stated p.result) p.ensures,
      omega (arith, i, w),
      rw j h.1,
    )

pub returns-in_err-expect_whole : goal.returns-in_err-expect_whole
returns-in_err-expect_whole c =
    let a = c.args in
    let m = a.self.m.now in
    let s = c.seek-look in
    handed_on _ _ c.from_residual.ensures.1
    (lies_not (length m) s.result.at (stated a.st) (λ x. Makes m (due_item a.self.v m a.st.at) a.st.notes a.places.now x a.places.now) s.result.look _ _ (c.in_err-expect_whole.ensures (stated a.st))
    (λ e. by_cut m a.st.at a.st.notes c.requires.0 item_tag s.result.at s.ensures.0 s.ensures.1 s.result.look s.ensures.2 (item_body a.self.v m) (fault 4) a.places.now e _ refl)
    (λ e. by_other m a.st.at a.st.notes c.requires.0 item_tag s.result.at s.ensures.0 s.ensures.1 s.result.look s.ensures.2 (item_body a.self.v m) (fault 4) a.places.now e _ _
    (makes_by 0 _ (refl, s.ensures.1, refl))))

pub returns : goal.returns
returns c =
    let a = c.args in
    let m = a.self.m.now in
    let s = c.seek-look in
    let p = c.at_place in
    let x = c.item in
    let e = lies_whole (length m) s.result.at (stated a.st) s.result.look (c.in_ok-expect_whole.ensures (stated a.st)) in
    by_whole m a.st.at a.st.notes c.requires.0 item_tag s.result.at s.ensures.0 s.ensures.1 s.result.look s.ensures.2
    (item_body a.self.v m) (fault 4) a.places.now e (stepped x.result) _
    (makes_at m (item_body a.self.v m) (stated p.result) s.result.at a.st.notes p.ensures a.places.now (stepped x.result) _ x.ensures)
