-- `straight::more_items` meets its contract.
use Rattle.std.proofs.Common.{◌+◌, ◌≤◌, length, sym, refl, ap, ◌∙◌, arith}
use Rattle.items.specs.Alone.{item_tag}
use Rattle.reading.specs.Noted.{Ended}
use Rattle.notes.specs.declared.Notes.{Notes}
use Rattle.notes.specs.Steps.{stated, stepped}
use Rattle.notes.proofs.Stays.{later, good_at}
use Rattle.straight.proofs.Elements.{refused_at, makes_by}
use Rattle.straight.proofs.Groups.{tag_within, handed_on}
use Rattle.straight.proofs.Again.{begin, onto, loop_refused, loop_cut, loop_other, loop_next, loop_end}
use Rattle.straight.proofs.more_items.Goals as goal

pub loop-left-init : goal.loop-left-init
loop-left-init c = (begin _ _ _ _ _ (c.requires.0, omega arith) c.requires.1, c.new-before.ensures _ _)

pub swift_items-more-requires : goal.swift_items-more-requires
swift_items-more-requires c =
    let k = c.loop-left.invariant.0 in
    (k.fine.0, k.room, c.loop-left-test.true, c.requires.2, c.loop-left.invariant.1)

pub seek-look-requires : goal.seek-look-requires
seek-look-requires c = c.swift_items-more.ensures.0.fine.0

pub shape_of-places-in-Cut : goal.shape_of-places-in-Cut
shape_of-places-in-Cut c = c.swift_items-more.ensures.0.long ∙ c.loop-left.invariant.0.long

pub returns-in-Cut : goal.returns-in-Cut
returns-in-Cut c =
    let r = c.swift_items-more in
    let u = stated r.result.state in
    let n = onto c.loop-left.invariant.0 r.ensures.0 in
    let f = c.seek-look in
    makes_by 0 _ (loop_cut _ _ _ _ _ _ _ _ n u refl r.ensures.1 n.fine.0 f.result.at f.ensures.0 f.ensures.1 f.result.look f.ensures.2 c.in-Cut.is _ (refused_at _ _ c.at.ensures))

pub overflow_cast-at : goal.overflow_cast-at
overflow_cast-at c = omega (arith, c.seek-look.ensures.1, c.swift_items-more.ensures.0.fine.0.small)

pub close-requires : goal.close-requires
close-requires c =
    let r = c.swift_items-more in
    rw c.at_place.ensures (good_at _ (stated r.result.state) c.seek-look.result.at r.ensures.0.fine.0 c.seek-look.ensures.1)

pub shape_of-places-in-Other : goal.shape_of-places-in-Other
shape_of-places-in-Other c = c.swift_items-more.ensures.0.long ∙ c.loop-left.invariant.0.long

pub returns-in-Other : goal.returns-in-Other
returns-in-Other c =
    let r = c.swift_items-more in
    let u = stated r.result.state in
    let n = onto c.loop-left.invariant.0 r.ensures.0 in
    let f = c.seek-look in
    makes_by 0 _ (loop_other _ _ _ _ _ _ _ _ n u refl r.ensures.1 n.fine.0 f.result.at f.ensures.0 f.ensures.1 f.result.look f.ensures.2
    c.in-Other.is (stated c.at_place.result) c.at_place.ensures (stepped c.close.result) c.close.ensures.0 c.close.ensures.1)

pub overflow_cast-at-in-Whole : goal.overflow_cast-at-in-Whole
overflow_cast-at-in-Whole c = omega (arith, c.seek-look.ensures.1, c.swift_items-more.ensures.0.fine.0.small)

pub item-requires : goal.item-requires
item-requires c =
    let m = c.args.source.m.now in
    let r = c.swift_items-more in
    let u = stated r.result.state in
    let g = r.ensures.0.fine.0 in
    let f = c.seek-look in
    let p = c.at_place-in-Whole in
    let q = f.result.at in
    let w : q + 14 ≤ length m = tag_within m u.at u.notes g item_tag q f.ensures.0 f.ensures.1 f.result.look f.ensures.2 c.in-Whole.is in
    let i = ap (λ (z : Ended Notes). z.at) p.ensures in
    let j = ap (λ (z : Ended Notes). z.notes) p.ensures in
    (rw p.ensures (good_at m u q g f.ensures.1), omega (arith, i, w), rw j r.ensures.0.room)

pub returns-in_err-st-in-Whole : goal.returns-in_err-st-in-Whole
returns-in_err-st-in-Whole c =
    let r = c.swift_items-more in
    let u = stated r.result.state in
    let n = onto c.loop-left.invariant.0 r.ensures.0 in
    let f = c.seek-look in
    let p = c.at_place-in-Whole in
    let x = c.item in
    let k = loop_next _ _ _ _ _ _ _ _ n u refl r.ensures.1 n.fine.0 f.result.at f.ensures.0 f.ensures.1 f.result.look f.ensures.2
    c.in-Whole.is (stated p.result) p.ensures (stepped x.result) _ x.ensures x.auto.places in
    handed_on _ _ c.from_residual.ensures.1 (makes_by 0 _ (loop_refused _ _ _ _ _ _ _ _ k _ _ (ap stepped (sym c.in_err-st-in-Whole.was))))

pub overflow_sub-left : goal.overflow_sub-left
overflow_sub-left c = omega (arith, c.swift_items-more.ensures.1)

pub loop-left-smaller : goal.loop-left-smaller
loop-left-smaller c = omega (arith, c.swift_items-more.ensures.1, c.swift_items-more.ensures.2)

pub loop-left-preserved : goal.loop-left-preserved
loop-left-preserved c =
    let r = c.swift_items-more in
    let u = stated r.result.state in
    let n = onto c.loop-left.invariant.0 r.ensures.0 in
    let f = c.seek-look in
    let p = c.at_place-in-Whole in
    let x = c.item in
    let k = loop_next _ _ _ _ _ _ _ _ n u refl r.ensures.1 n.fine.0 f.result.at f.ensures.0 f.ensures.1 f.result.look f.ensures.2
    c.in-Whole.is (stated p.result) p.ensures (stepped x.result) _ x.ensures x.auto.places in
    (rw (ap stepped c.in_ok-st-in-Whole.was) at k, r.ensures.3)

pub shape_of-places : goal.shape_of-places
shape_of-places c = c.loop-left.invariant.0.long

pub returns : goal.returns
returns c = makes_by 0 _ (loop_end _ _ _ _ _ _ _ _ c.loop-left.invariant.0 (omega arith) (stepped c.end_tag.result) c.end_tag.ensures.0
    (later c.args.source.m.now 0 c.loop-left.st.at (omega arith) (stepped c.end_tag.result) c.end_tag.ensures.1))
