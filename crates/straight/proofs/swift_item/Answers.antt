-- `straight::swift_item` meets its contract.
use Rattle.std.proofs.Common.{[], sym, refl, ap, arith}
use Rattle.profile.specs.Limits.{most_bytes}
use Rattle.reading.specs.Noted.{on}
use Rattle.notes.specs.Notes.{fresh}
use Rattle.notes.specs.Steps.{stated, stepped}
use Rattle.notes.proofs.Notings.{here}
use Rattle.straight.proofs.Frame.{starts_good, starts_room, item_makes}
use Rattle.straight.proofs.Swift.{begun, swift_first}
use Rattle.straight.proofs.Told.{front_within, back_within, cents_fit, held_makes}
use Rattle.straight.proofs.swift_item.Goals as goal

pub overflow_sub-at : goal.overflow_sub-at
overflow_sub-at c = omega (arith, c.in_ok-at.ensures.1.behind)

pub overflow_cast-at : goal.overflow_cast-at
overflow_cast-at c = omega (arith, c.in_ok-at.ensures.0, c.requires.0)

pub read_item-requires : goal.read_item-requires
read_item-requires c = (c.in_ok-at.ensures.0, c.requires.2, c.requires.3)

pub note_item-requires : goal.note_item-requires
note_item-requires c =
    let a = c.args in
    let h = c.requires in
    let m = a.source.m.now in
    let i = c.in_ok-at in
    let u = here a.p fresh in
    let good = starts_good a.source.v m a.p h.0 h.1 u refl in
    let room = starts_room a.source.v m a.p h.0 h.1 u refl in
    let g = c.begin_item-b in
    let y = stated c.in-Ok.begun in
    let o = begun a.source.v m u good room i.at i.ensures.1 i.ensures.0 (stated c.new.result) c.new.ensures (stepped g.result) g.ensures y (ap stepped (sym c.in-Ok.is)) in
    let r = c.in_ok-r.ensures.0 in
    (front_within _ most_bytes _ r.0 h.0, back_within _ most_bytes _ r.1 h.0, cents_fit m i.at y.notes _ o.good o.room r.0.cents)

pub returns : goal.returns
returns c =
    let a = c.args in
    let h = c.requires in
    let m = a.source.m.now in
    let i = c.in_ok-at in
    let u = here a.p fresh in
    let good = starts_good a.source.v m a.p h.0 h.1 u refl in
    let room = starts_room a.source.v m a.p h.0 h.1 u refl in
    let g = c.begin_item-b in
    let y = stated c.in-Ok.begun in
    let o = begun a.source.v m u good room i.at i.ensures.1 i.ensures.0 (stated c.new.result) c.new.ensures (stepped g.result) g.ensures y (ap stepped (sym c.in-Ok.is)) in
    let r = c.in_ok-r.ensures.0 in
    let s = c.note_item in
    let z = stated s.result in
    let k = held_makes m i.at y.notes a.source.v c.in_ok-r.r o.good r.1 r.2 r.3 z s.ensures (on z) refl [] _ refl in
    let x = item_makes a.source.v m a.p h.0 h.1 u refl [] (on z) _ (swift_first o [] z _ k) in
    ((sym x.0, x.1.0), c.in_ok-r.ensures.1)
