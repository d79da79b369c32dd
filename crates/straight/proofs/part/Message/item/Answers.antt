-- `straight::part::Message::item` meets its contract.
use Rattle.std.proofs.Common.{◌+◌, sym, refl, ap, arith}
use Rattle.reading.specs.Noted.{on}
use Rattle.notes.specs.Steps.{stated, stepped}
use Rattle.straight.proofs.Groups.{handed_on}
use Rattle.straight.proofs.Types.{goes_at}
use Rattle.straight.proofs.Begins.{item_fine, item_room, item_makes, item_refused}
use Rattle.straight.proofs.part.Message.item.Goals as goal

pub overflow_add-at : goal.overflow_add-at
overflow_add-at c = omega (arith, c.requires.1, c.requires.0.small)

pub returns-in_err-st : goal.returns-in_err-st
returns-in_err-st c =
    let h = c.requires in
    let b = c.begin_item in
    let a = c.args in
    handed_on _ _ c.from_residual.ensures.1 (item_refused a.self.m.now a.st.at a.st.notes h.0 h.1 (stepped b.result) b.ensures _ _ (ap stepped (sym c.in_err-st.was)) a.self.v a.places.now)

pub in_item-requires : goal.in_item-requires
in_item-requires c =
    let h = c.requires in
    let b = c.begin_item in
    let a = c.args in
    let z = a.st.at + 14 in
    let t = stated c.at_place.result in
    let f = goes_at (stepped b.result) (stated c.in_ok-st.st) (ap stepped (sym c.in_ok-st.was)) z t c.at_place.ensures in (
      (item_fine a.self.m.now a.st.at a.st.notes (stepped b.result) (on t) b.ensures z f h.0 h.1).0,
      item_room a.self.m.now a.st.at a.st.notes (stepped b.result) (on t) b.ensures z f h.2,
    )

pub returns : goal.returns
returns c =
    let b = c.begin_item in
    let x = c.in_item in
    let a = c.args in
    let z = a.st.at + 14 in
    let t = stated c.at_place.result in
    let f = goes_at (stepped b.result) (stated c.in_ok-st.st) (ap stepped (sym c.in_ok-st.was)) z t c.at_place.ensures in
    item_makes a.self.m.now a.st.at a.st.notes (stepped b.result) (on t) b.ensures z f a.self.v refl a.places.now (stepped x.result) _ (x.ensures.is, x.ensures.fine, x.ensures.places)
