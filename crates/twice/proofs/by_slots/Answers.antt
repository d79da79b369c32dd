-- `twice::by_slots` meets its contract. The loop's invariant: what the search gives from item i on is what it gives at all, and each entry is that of its item.
use Rattle.std.proofs.Common.{ap, sym, refl, ◌∙◌, arith, length-set}
use Rattle.twice.specs.Twice.{if_any, least_index}
use Rattle.twice.specs.Engine.{most, mix, numbers_in}
use Rattle.twice.proofs.Pairs.{some_place}
use Rattle.twice.proofs.Walks.{slots_end, slots_zero, slots_here}
use Rattle.twice.proofs.Entries.{free_told, told_on, slots_on, number_of_full, numbers_long, numbers_free}
use Rattle.twice.proofs.Slots.{by_any_mix}
use Rattle.twice.proofs.by_slots.Goals as goal

pub loop-i-init : goal.loop-i-init
loop-i-init c =
    let a = c.args in
    (refl, free_told a.m.now a.places.now a.index.now c.requires.2, refl)

pub returns-then-p-eq0 : goal.returns-then-p-eq0
returns-then-p-eq0 c =
    let a = c.args in
    let l = c.loop-i in
    ap if_any (sym (slots_zero mix a.m.now a.places.now l.i (numbers_in l.index) (omega arith) c.if-p-eq0.true) ∙ l.invariant.2)

pub returns-then-all_dark : goal.returns-then-all_dark
returns-then-all_dark c =
    let a = c.args in
    let p = c.requires in
    c.plainly.ensures
    ∙ ap if_any (sym (by_any_mix mix a.m.now a.places.now p.1 (numbers_in a.index.now) (omega (arith, numbers_long a.index.now, p.0)) (numbers_free a.index.now p.2)))

pub probe-slot-requires : goal.probe-slot-requires
probe-slot-requires c =
    let l = c.loop-i in
    (omega (arith, l.invariant.0, c.requires.0), l.invariant.1)

pub offset_bounds-index-slot : goal.offset_bounds-index-slot
unfolding least_index
offset_bounds-index-slot c = omega (arith, c.probe-slot.ensures.1)

pub bounds-index-slot : goal.bounds-index-slot
bounds-index-slot c = omega (arith, c.probe-slot.ensures.1, c.loop-i.invariant.0, c.requires.0)

pub returns-then-index-slot-ne0 : goal.returns-then-index-slot-ne0
returns-then-index-slot-ne0 c =
    let a = c.args in
    let l = c.loop-i in
    let p = c.probe-slot in
    some_place _ c.if-p-eq0.false
    ∙ ap if_any (sym (slots_here mix a.m.now a.places.now l.i (numbers_in l.index) (omega arith) c.if-p-eq0.false p.result.slot p.ensures.0
    (number_of_full a.m.now a.places.now l.index p.result.slot l.invariant.1 p.ensures.1 c.if-index-slot-ne0.true))
    ∙ l.invariant.2)

pub overflow_add-i : goal.overflow_add-i
unfolding most
overflow_add-i c = omega (arith, c.requires.1)

pub overflow_cast-i : goal.overflow_cast-i
unfolding most
overflow_cast-i c = omega (arith, c.requires.1)

pub entry-requires : goal.entry-requires
unfolding most least_index
entry-requires c = omega (arith, c.requires.1)

pub offset_bounds-index-slot-in-loop-i : goal.offset_bounds-index-slot-in-loop-i
unfolding least_index
offset_bounds-index-slot-in-loop-i c = omega (arith, c.probe-slot.ensures.1)

pub bounds-index-slot-in-loop-i : goal.bounds-index-slot-in-loop-i
bounds-index-slot-in-loop-i c = omega (arith, c.probe-slot.ensures.1, c.loop-i.invariant.0, c.requires.0)

pub loop-i-preserved : goal.loop-i-preserved
unfolding most least_index
loop-i-preserved c =
    let a = c.args in
    let l = c.loop-i in
    let p = c.probe-slot in
    let e = c.entry in (
      length-set l.index p.result.slot e.result ∙ l.invariant.0,
      told_on a.m.now a.places.now l.index p.result.slot l.invariant.1 l.i p.result.mix e.result (omega (arith, c.requires.1)) e.ensures
          (omega (arith, p.ensures.1, l.invariant.0, c.requires.0)) p.ensures.2,
      slots_on a.m.now a.places.now l.index p.result.slot l.invariant.1 l.i p.result.mix e.result (omega (arith, c.requires.1)) e.ensures
          (omega arith) c.if-p-eq0.false p.ensures.0 c.if-index-slot-ne0.false
          ∙ l.invariant.2,
    )

pub returns : goal.returns
returns c =
    let a = c.args in
    let l = c.loop-i in
    ap if_any (sym (slots_end mix a.m.now a.places.now l.i (numbers_in l.index) c.loop-i-test.false) ∙ l.invariant.2)
