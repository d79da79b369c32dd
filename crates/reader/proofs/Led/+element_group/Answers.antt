-- `group` and `element` call each other: each reads what its definition says.
use mathlib.Core.Path.{◌∙◌, ap, sym, refl}
use native.Mathlib.Omega.{arith}
use Prim.Native.Nat.{◌+◌}
use Rattle.std.proofs.lemmas.Result.{err_from_is_err_and}
use Rattle.table.specs.Table.{due, occ_of, mark_name, closes_by}
use Rattle.table.proofs.Tied.{some_start, end_finish, leaf_finish, group_below as group-below-row}
use Rattle.table.proofs.Rows.{row_tied, few_rows}
use Rattle.notes.specs.Steps.{stated, stepped, reads}
use Rattle.notes.proofs.Stays.{later}
use Rattle.tags.specs.Tags.{skipped}
use Rattle.engine.specs.Engine.{closed_by, placed}
use Rattle.engine.proofs.Steps.{fine_on}
use Rattle.engine.proofs.Elements.{missing_fine}
use Rattle.engine.proofs.Placed.{closed_placed}
use Rattle.reader.proofs.Steps.{refused_at, fine_same}
use Rattle.reader.proofs.Turns.{element_deep}
use Rattle.reader.proofs.Rows.{tells, ended, element_stops, element_group, element_value, element_stops_placed, element_group_placed, element_value_placed, inner_deep, within}
use Rattle.reader.proofs.Room.{due_fair, group_room, value_room}
use Rattle.reader.proofs.Loops.{begin, element_amounts, loop_end, loop_cut, loop_miss, loop_pass, loop_fail, loop_next, loop_more}
use Rattle.reader.proofs.Led.+element_group.Goals as goal

pub element-enter-requires : goal.element-enter-requires
element-enter-requires n c =
    let a = c.args in
    let p = c.requires in
    let r = c.row_at-r in
    let w = row_tied a.self.v a.self.rows.now a.k r.result r.ensures p.5 p.1 in
    (p.0, rw (r.ensures, p.5) p.3, some_start a.self.v a.k r.result (due a.self.v a.k) w.0 p.2)

pub element-group-requires : goal.element-group-requires
element-group-requires n c =
    let a = c.args in
    let p = c.requires in
    let r = c.row_at-r in
    let e = c.in_ok-s in
    let w = row_tied a.self.v a.self.rows.now a.k r.result r.ensures p.5 p.1 in
    let g = fine_on a.self.m.now (a.st.at + 1) _ (stated e.s) refl e.ensures.1 in (
      omega (arith, c.decreases, g.0.within, g.1, inner_deep a.self.v a.k r.result (due a.self.v a.k) w.0 p.2 c.in_default.not-Value),
      (
        g.0,
        group-below-row a.self.v a.k r.result (due a.self.v a.k) w.0 p.2 c.in_default.not-Value,
        p.4,
        p.5,
        group_room a.self.m.now a.self.v a.k r.result a.st.at a.st.notes (stated e.s) e.ensures.0
            (due a.self.v a.k) w.0 p.2 c.in_default.not-Value (due_fair a.self.v a.k) p.6,
      ),
    )

pub element-returns-in_default : goal.element-returns-in_default
element-returns-in_default n c =
    let a = c.args in
    let p = c.requires in
    let r = c.row_at-r in
    let e = c.in_ok-s in
    let w = row_tied a.self.v a.self.rows.now a.k r.result r.ensures p.5 p.1 in
    let g = fine_on a.self.m.now (a.st.at + 1) _ (stated e.s) refl e.ensures.1 in (
      c.group.ensures.0 ∙ element_group a.self.v a.k r.result a.self.m.now a.st.at a.st.notes (stated e.s)
          e.ensures.0 (due a.self.v a.k) w.0 p.2 c.in_default.not-Value,
      later a.self.m.now (a.st.at + 1) e.s.at g.1 (stepped c.group.result) c.group.ensures.1,
      c.group.ensures.2 ∙ element_group_placed a.self.v a.k r.result a.self.m.now a.st.at a.st.notes a.places.now (stated e.s)
          e.ensures.0 (due a.self.v a.k) w.0 p.2 c.in_default.not-Value,
    )

pub element-value-requires : goal.element-value-requires
element-value-requires n c =
    let a = c.args in
    let p = c.requires in
    let r = c.row_at-r in
    let w = row_tied a.self.v a.self.rows.now a.k r.result r.ensures p.5 p.1 in
    let e = c.in_ok-s in
    let g = fine_on a.self.m.now (a.st.at + 1) _ (stated e.s) refl e.ensures.1 in (
      g.0,
      leaf_finish a.self.v a.k r.result a.self.names.now p.4 _ _ c.in-Value.is (due a.self.v a.k) w.0 p.2,
      value_room a.self.m.now a.self.v a.k r.result a.st.at a.st.notes (stated e.s) e.ensures.0
          _ _ c.in-Value.is (due a.self.v a.k) w.0 p.2 (due_fair a.self.v a.k) p.6,
    )

pub element-returns-in_err-s : goal.element-returns-in_err-s
element-returns-in_err-s n c =
    let a = c.args in
    let p = c.requires in
    let r = c.row_at-r in
    let w = row_tied a.self.v a.self.rows.now a.k r.result r.ensures p.5 p.1 in
    let e = c.in_err-s in
    let f = err_from_is_err_and c.from_residual.result c.from_residual.ensures.1 in
    rw (f.1, f.2) (
      element_stops a.self.v a.k r.result a.self.m.now a.st.at a.st.notes (due a.self.v a.k) w.0 p.2 _ _ e.ensures.0,
      e.ensures.1,
      element_stops_placed a.self.v a.k r.result a.self.m.now a.st.at a.st.notes a.places.now (due a.self.v a.k) w.0 p.2 _ _ e.ensures.0,
    )

pub element-returns-in-Value : goal.element-returns-in-Value
element-returns-in-Value n c =
    let a = c.args in
    let p = c.requires in
    let r = c.row_at-r in
    let e = c.in_ok-s in
    let w = row_tied a.self.v a.self.rows.now a.k r.result r.ensures p.5 p.1 in
    let g = fine_on a.self.m.now (a.st.at + 1) _ (stated e.s) refl e.ensures.1 in (
      c.value.ensures.0 ∙ element_value a.self.v a.k r.result a.self.m.now a.st.at a.st.notes (stated e.s)
          e.ensures.0 a.self.names.now p.4 _ _ c.in-Value.is (due a.self.v a.k) w.0 p.2,
      later a.self.m.now (a.st.at + 1) e.s.at g.1 (stepped c.value.result) c.value.ensures.1,
      c.value.ensures.2 ∙ element_value_placed a.self.v a.k r.result a.self.m.now a.st.at a.st.notes a.places.now (stated e.s)
          e.ensures.0 a.self.names.now p.4 _ _ c.in-Value.is (due a.self.v a.k) w.0 p.2,
    )

pub group-loop-self-init : goal.group-loop-self-init
group-loop-self-init n c =
    let a = c.args in
    let p = c.requires in
    begin a.self.v a.self.m.now a.first (stated a.start) a.places.now p.0 p.1 p.4

pub group-close-requires : goal.group-close-requires
group-close-requires n c =
    let a = c.args in
    let p = c.requires in
    let l = c.loop-self in
    let r = c.row_at-r in
    let s = c.skip-st in
    let w = row_tied a.self.v a.self.rows.now l.k r.result r.ensures p.3 l.invariant.row in
    (s.ensures.1, end_finish a.self.v l.k r.result a.self.names.now p.2 (due a.self.v l.k) w.0 c.in-End.is)

pub group-returns-in-End : goal.group-returns-in-End
group-returns-in-End n c =
    let a = c.args in
    let p = c.requires in
    let l = c.loop-self in
    let r = c.row_at-r in
    let s = c.skip-st in
    let w = row_tied a.self.v a.self.rows.now l.k r.result r.ensures p.3 l.invariant.row in
    loop_end a.self.v a.self.m.now a.first (stated a.start) a.places.now l.k l.seen (stated l.st) l.places l.invariant (stated s.result) s.ensures.0 s.ensures.1 s.ensures.2 (stepped c.close.result)
    (c.close.ensures.0 ∙ ap (λ x. reads (closed_by (closes_by a.self.names.now r.result) a.self.m.now x.at) x.notes) s.ensures.0
    ∙ ap (λ x. reads x l.st.notes) (ended a.self.v l.k r.result a.self.names.now p.2 a.self.m.now l.invariant.left l.seen l.st.at (due a.self.v l.k) w.0 c.in-End.is))
    c.close.ensures.1
    (sym (ap (λ x. placed x l.st.notes l.places) (sym (ended a.self.v l.k r.result a.self.names.now p.2 a.self.m.now l.invariant.left l.seen l.st.at (due a.self.v l.k) w.0 c.in-End.is))
    ∙ closed_placed a.self.m.now (closes_by a.self.names.now r.result) (skipped a.self.m.now l.st.at) l.st.notes l.places))

pub group-returns-in-Cut : goal.group-returns-in-Cut
group-returns-in-Cut n c =
    let a = c.args in
    let p = c.requires in
    let l = c.loop-self in
    let r = c.row_at-r in
    let s = c.skip-st in
    let d = c.due_now-occ in
    let x = c.start_at in
    let w = row_tied a.self.v a.self.rows.now l.k r.result r.ensures p.3 l.invariant.row in
    let t = tells a.self.v l.k r.result (due a.self.v l.k) w.0 c.in_default.not-End in
    loop_cut a.self.v a.self.m.now a.first (stated a.start) a.places.now l.k l.seen (stated l.st) l.places l.invariant (stated s.result) s.ensures.0
    s.ensures.1 s.ensures.2 r.result w.1.next a.self.names.now p.2 t d.result d.ensures x.result
    x.ensures c.in-Cut.is _ (refused_at _ _ c.at.ensures)

pub group-returns-in_err-st-in-Other : goal.group-returns-in_err-st-in-Other
group-returns-in_err-st-in-Other n c =
    let a = c.args in
    let p = c.requires in
    let l = c.loop-self in
    let r = c.row_at-r in
    let s = c.skip-st in
    let d = c.due_now-occ in
    let x = c.start_at in
    let b = c.in_err-st-in-Other in
    let w = row_tied a.self.v a.self.rows.now l.k r.result r.ensures p.3 l.invariant.row in
    let t = tells a.self.v l.k r.result (due a.self.v l.k) w.0 c.in_default.not-End in
    let f = err_from_is_err_and c.from_residual.result c.from_residual.ensures.1 in
    rw (f.1, f.2)
    (loop_miss a.self.v a.self.m.now a.first (stated a.start) a.places.now l.k l.seen (stated l.st) l.places l.invariant (stated s.result) s.ensures.0
    s.ensures.1 s.ensures.2 r.result w.1.next a.self.names.now p.2 t d.result d.ensures x.result
    x.ensures c.in-Other.is _ b.ensures refl)

pub group-loop-self-smaller-in-Other : goal.group-loop-self-smaller-in-Other
group-loop-self-smaller-in-Other n c =
    let a = c.args in
    let p = c.requires in
    let l = c.loop-self in
    let r = c.row_at-r in
    let s = c.skip-st in
    let d = c.due_now-occ in
    let x = c.start_at in
    let b = c.in_ok-st-in-Other in
    let w = row_tied a.self.v a.self.rows.now l.k r.result r.ensures p.3 l.invariant.row in
    let t = tells a.self.v l.k r.result (due a.self.v l.k) w.0 c.in_default.not-End in
    let f = fine_same a.self.m.now s.result.at _ _ b.ensures (missing_fine a.self.m.now (occ_of d.result) (mark_name r.result.typed) s.result.at s.result.notes s.ensures.1) in
    omega (arith, s.ensures.2, t.later, w.1.next, few_rows a.self.v, f.0.within, f.1)

pub group-loop-self-preserved-in-Other : goal.group-loop-self-preserved-in-Other
group-loop-self-preserved-in-Other n c =
    let a = c.args in
    let p = c.requires in
    let l = c.loop-self in
    let r = c.row_at-r in
    let s = c.skip-st in
    let d = c.due_now-occ in
    let x = c.start_at in
    let b = c.in_ok-st-in-Other in
    let w = row_tied a.self.v a.self.rows.now l.k r.result r.ensures p.3 l.invariant.row in
    let t = tells a.self.v l.k r.result (due a.self.v l.k) w.0 c.in_default.not-End in
    rw c.from-k.ensures
    (loop_pass a.self.v a.self.m.now a.first (stated a.start) a.places.now l.k l.seen (stated l.st) l.places l.invariant (stated s.result) s.ensures.0
    s.ensures.1 s.ensures.2 r.result w.1.next a.self.names.now p.2 t d.result d.ensures x.result
    x.ensures c.in-Other.is _ b.ensures (stated b.st) refl)

pub group-element-requires : goal.group-element-requires
group-element-requires n c =
    let a = c.args in
    let p = c.requires in
    let l = c.loop-self in
    let r = c.row_at-r in
    let s = c.skip-st in
    let x = c.start_at in
    let w = row_tied a.self.v a.self.rows.now l.k r.result r.ensures p.3 l.invariant.row in
    let t = tells a.self.v l.k r.result (due a.self.v l.k) w.0 c.in_default.not-End in (
      omega (arith, c.decreases, l.invariant.on, s.ensures.2, element_deep (due a.self.v l.k), l.invariant.depth),
      (
        s.ensures.1,
        l.invariant.row,
        t.element,
        within a.self.v l.k r.result a.self.names.now p.2 a.self.m.now a.self.rows.now p.3 r.ensures s.result.at
            s.ensures.1.within t (sym c.in-Whole.is ∙ x.ensures),
        p.2,
        p.3,
        element_amounts a.self.v a.self.m.now a.first (stated a.start) a.places.now l.k l.seen (stated l.st) l.places l.invariant (stated s.result) s.ensures.0
            s.ensures.1 s.ensures.2,
      ),
    )

pub group-returns-in_err-st-in-Whole : goal.group-returns-in_err-st-in-Whole
group-returns-in_err-st-in-Whole n c =
    let a = c.args in
    let p = c.requires in
    let l = c.loop-self in
    let r = c.row_at-r in
    let s = c.skip-st in
    let d = c.due_now-occ in
    let x = c.start_at in
    let b = c.in_err-st-in-Whole in
    let w = row_tied a.self.v a.self.rows.now l.k r.result r.ensures p.3 l.invariant.row in
    let t = tells a.self.v l.k r.result (due a.self.v l.k) w.0 c.in_default.not-End in
    let f = err_from_is_err_and c.from_residual-in_err-st-in-Whole.result c.from_residual-in_err-st-in-Whole.ensures.1 in
    rw (f.1, f.2)
    (loop_fail a.self.v a.self.m.now a.first (stated a.start) a.places.now l.k l.seen (stated l.st) l.places l.invariant (stated s.result) s.ensures.0
    s.ensures.1 s.ensures.2 r.result w.1.next a.self.names.now p.2 t d.result d.ensures x.result
    x.ensures c.in-Whole.is _ b.ensures.0 b.ensures.1 c.element.new.places b.ensures.2 c.element.auto.places refl)

pub group-loop-self-preserved : goal.group-loop-self-preserved
group-loop-self-preserved n c =
    let a = c.args in
    let p = c.requires in
    let l = c.loop-self in
    let r = c.row_at-r in
    let s = c.skip-st in
    let d = c.due_now-occ in
    let x = c.start_at in
    let b = c.in_ok-st-in-Whole in
    let w = row_tied a.self.v a.self.rows.now l.k r.result r.ensures p.3 l.invariant.row in
    let t = tells a.self.v l.k r.result (due a.self.v l.k) w.0 c.in_default.not-End in
    rw c.from-k-else-repeats.ensures
    (loop_next a.self.v a.self.m.now a.first (stated a.start) a.places.now l.k l.seen (stated l.st) l.places l.invariant (stated s.result) s.ensures.0
    s.ensures.1 s.ensures.2 r.result w.1.next a.self.names.now p.2 t d.result d.ensures x.result
    x.ensures c.in-Whole.is _ b.ensures.0 b.ensures.1 c.element.new.places b.ensures.2 c.element.auto.places (stated b.st) refl (sym c.repeats.ensures ∙ c.if-repeats.false))

pub group-loop-self-preserved-then-repeats : goal.group-loop-self-preserved-then-repeats
group-loop-self-preserved-then-repeats n c =
    let a = c.args in
    let p = c.requires in
    let l = c.loop-self in
    let r = c.row_at-r in
    let s = c.skip-st in
    let d = c.due_now-occ in
    let x = c.start_at in
    let b = c.in_ok-st-in-Whole in
    let w = row_tied a.self.v a.self.rows.now l.k r.result r.ensures p.3 l.invariant.row in
    let t = tells a.self.v l.k r.result (due a.self.v l.k) w.0 c.in_default.not-End in
    loop_more a.self.v a.self.m.now a.first (stated a.start) a.places.now l.k l.seen (stated l.st) l.places l.invariant (stated s.result) s.ensures.0
    s.ensures.1 s.ensures.2 r.result w.1.next a.self.names.now p.2 t d.result d.ensures x.result
    x.ensures c.in-Whole.is _ b.ensures.0 b.ensures.1 c.element.new.places b.ensures.2 c.element.auto.places (stated b.st) refl (sym c.repeats.ensures ∙ c.if-repeats.true)
