-- `straight::swift_items` meets its contract. The loop's invariant: what is made of the items that come is what is made of those that are left.
use Rattle.std.proofs.Common.{sym, ap, refl, arith}
use Rattle.profile.specs.Limits.{most_bytes}
use Rattle.reading.specs.Noted.{on}
use Rattle.notes.specs.Steps.{stated, stepped}
use Rattle.straight.proofs.Again.{begin}
use Rattle.straight.proofs.Swift.{begun, swift_next}
use Rattle.straight.proofs.Told.{front_within, back_within, cents_fit, held_makes}
use Rattle.straight.proofs.swift_items.Goals as goal

pub loop-left-init : goal.loop-left-init
loop-left-init c =
    let a = c.args in
    let h = c.requires in
    (begin a.source.v a.source.m.now a.most (on (stated a.st)) a.places.now (h.0, omega arith) h.1, h.2, omega arith, h.4)

pub item_tag-requires : goal.item_tag-requires
item_tag-requires c = c.loop-left.invariant.0.fine.0.within

pub shape_of-places-in_default : goal.shape_of-places-in_default
shape_of-places-in_default c = c.loop-left.invariant.0.long

pub returns-in_default : goal.returns-in_default
returns-in_default c = c.loop-left.invariant

pub overflow_sub-at : goal.overflow_sub-at
overflow_sub-at c =
    let i = rw c.in-Some.is at c.item_tag.ensures in
    omega (arith, i.1.behind)

pub overflow_cast-at : goal.overflow_cast-at
overflow_cast-at c =
    let i = rw c.in-Some.is at c.item_tag.ensures in
    omega (arith, i.0, c.loop-left.invariant.0.fine.0.small)

pub shape_of-places-in_default-begin_item : goal.shape_of-places-in_default-begin_item
shape_of-places-in_default-begin_item c = c.loop-left.invariant.0.long

pub returns-in_default-begin_item : goal.returns-in_default-begin_item
returns-in_default-begin_item c = c.loop-left.invariant

pub read_item-requires : goal.read_item-requires
read_item-requires c =
    let i = rw c.in-Some.is at c.item_tag.ensures in
    (i.0, c.requires.3, c.loop-left.invariant.3)

pub shape_of-places-in_default-read_item : goal.shape_of-places-in_default-read_item
shape_of-places-in_default-read_item c = c.loop-left.invariant.0.long

pub returns-in_default-read_item : goal.returns-in_default-read_item
returns-in_default-read_item c =
    let l = c.loop-left in
    (l.invariant.0, l.invariant.1, l.invariant.2, c.read_item.ensures.1)

pub overflow_cast-r : goal.overflow_cast-r
overflow_cast-r c =
    let r = rw c.in-Some-read_item.is at c.read_item.ensures.0 in
    omega (arith, r.0.tx, c.loop-left.invariant.0.fine.0.small)

pub note_item-s-requires : goal.note_item-s-requires
note_item-s-requires c =
    let a = c.args in
    let m = a.source.m.now in
    let l = c.loop-left in
    let u = stated l.s in
    let q = c.in-Some.at in
    let i = rw c.in-Some.is at c.item_tag.ensures in
    let p = c.at_place in
    let g = c.begin_item in
    let y = stated c.in-Ok.begun in
    let w = ap stepped (sym c.in-Ok.is) in
    let x = begun a.source.v m u l.invariant.0.fine.0 l.invariant.0.room q i.1 i.0 (stated p.result) p.ensures (stepped g.result) g.ensures y w in
    let r = rw c.in-Some-read_item.is at c.read_item.ensures.0 in
    let small = l.invariant.0.fine.0.small in
    (front_within _ most_bytes _ r.0 small, back_within _ most_bytes _ r.1 small, cents_fit m q y.notes _ x.good x.room r.0.cents)

pub overflow_sub-left : goal.overflow_sub-left
overflow_sub-left c =
    omega (arith, c.loop-left-test.true)

pub loop-left-smaller : goal.loop-left-smaller
loop-left-smaller c =
    omega (arith, c.loop-left-test.true)

pub loop-left-preserved : goal.loop-left-preserved
loop-left-preserved c =
    let a = c.args in
    let m = a.source.m.now in
    let l = c.loop-left in
    let u = stated l.s in
    let q = c.in-Some.at in
    let i = rw c.in-Some.is at c.item_tag.ensures in
    let p = c.at_place in
    let g = c.begin_item in
    let y = stated c.in-Ok.begun in
    let w = ap stepped (sym c.in-Ok.is) in
    let x = begun a.source.v m u l.invariant.0.fine.0 l.invariant.0.room q i.1 i.0 (stated p.result) p.ensures (stepped g.result) g.ensures y w in
    let r = rw c.in-Some-read_item.is at c.read_item.ensures.0 in
    let n = c.note_item-s in
    let f = c.file in (
      swift_next x l.places (stated n.result) _
          (held_makes m q y.notes a.source.v c.in-Some-read_item.r x.good r.1 r.2 r.3 (stated n.result) n.ensures (on (stated n.result)) refl l.places _ f.ensures) a.most (on (stated a.st)) a.places.now l.left l.invariant.0
          c.loop-left-test.true f.auto.places,
      omega (arith, c.loop-left-test.true),
      omega (arith, l.invariant.2),
      c.read_item.ensures.1,
    )

pub shape_of-places : goal.shape_of-places
shape_of-places c = c.loop-left.invariant.0.long

pub returns : goal.returns
returns c = c.loop-left.invariant
