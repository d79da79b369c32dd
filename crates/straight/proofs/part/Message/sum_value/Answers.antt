-- `straight::part::Message::sum_value` meets its contract.
use Rattle.std.proofs.Common.{sym, refl, ap, ◌∙◌, arith}
use Rattle.tags.specs.Tags.{exactly}
use Rattle.profile.specs.declared.Kind.TheVariants.{Amount}
use Rattle.notes.specs.Steps.{stated, stepped}
use Rattle.engine.proofs.Steps.{value_fits, value_none, value_sum, value_good, value_stops, value_closes, none_placed, stops_placed, value_placed}
use Rattle.straight.proofs.Elements.{refused_at, makes_by}
use Rattle.straight.proofs.Groups.{handed_on}
use Rattle.straight.proofs.part.Message.sum_value.Goals as goal

pub overflow_add-e : goal.overflow_add-e
overflow_add-e c =
    let a = c.args in
    let u = c.upto in
    omega (arith, value_fits a.self.m.now a.st.at u.result c.requires.0.within u.ensures)

pub returns-then-e-self : goal.returns-then-e-self
returns-then-e-self c =
    let a = c.args in
    let u = c.upto in
    let y = value_none a.self.m.now a.st.at a.st.notes c.requires.0 (exactly a.finish.now) Amount a.f u.result
    u.ensures c.if-e-self.true _ (refused_at _ _ c.at.ensures) in makes_by a.st.at _ (
      y.0,
      y.1,
      none_placed a.self.m.now a.st.at a.st.notes c.requires.0 (exactly a.finish.now) Amount a.f
          u.result u.ensures c.if-e-self.true a.places.now,
    )

pub slice_bounds-note-end : goal.slice_bounds-note-end
slice_bounds-note-end c =
    let a = c.args in
    let u = c.upto in
    omega (arith, value_fits a.self.m.now a.st.at u.result c.requires.0.within u.ensures)

pub overflow_add-st : goal.overflow_add-st
overflow_add-st c =
    let the-pre = c.requires in
    let the-if1 = c.if-e-self in
    let a = c.args in
    let u = c.upto in
    let n = c.note in
    let s = stated c.in_ok-st.st in
    let w = ap stepped (sym c.in_ok-st.was) ∙ n.ensures in
    omega (arith, value_sum a.self.m.now a.st.at a.st.notes the-pre.0 (exactly a.finish.now) Amount a.f u.result u.ensures the-if1.false s w the-pre.1)

pub overflow_cast-e : goal.overflow_cast-e
overflow_cast-e c =
    let the-pre = c.requires in
    let a = c.args in
    let u = c.upto in
    omega (arith, value_fits a.self.m.now a.st.at u.result the-pre.0.within u.ensures, the-pre.0.small)

pub close-requires : goal.close-requires
close-requires c =
    let the-pre = c.requires in
    let the-if1 = c.if-e-self in
    let a = c.args in
    let u = c.upto in
    let n = c.note in
    let s = stated c.in_ok-st.st in
    let w = ap stepped (sym c.in_ok-st.was) ∙ n.ensures in
    rw c.at_place.ensures (value_good a.self.m.now a.st.at a.st.notes the-pre.0 (exactly a.finish.now) Amount a.f u.result u.ensures the-if1.false s w
    (stated c.with_sum-st.result) c.with_sum-st.ensures)

pub returns-in_err-st : goal.returns-in_err-st
returns-in_err-st c =
    let a = c.args in
    let u = c.upto in
    let w = ap stepped (sym c.in_err-st.was) ∙ c.note.ensures in
    let y = value_stops a.self.m.now a.st.at a.st.notes c.requires.0 (exactly a.finish.now) Amount a.f u.result u.ensures c.if-e-self.false _ _ w _ refl in
    handed_on _ _ c.from_residual.ensures.1 (makes_by a.st.at _ (
      y.0,
      y.1,
      stops_placed a.self.m.now a.st.at a.st.notes c.requires.0 (exactly a.finish.now) Amount a.f u.result u.ensures c.if-e-self.false _ _ w a.places.now,
    ))

pub returns : goal.returns
returns c =
    let the-pre = c.requires in
    let the-if1 = c.if-e-self in
    let the-file = c.file in
    let the-with-sum = c.with_sum-st in
    let a = c.args in
    let u = c.upto in
    let n = c.note in
    let s = stated c.in_ok-st.st in
    let w = ap stepped (sym c.in_ok-st.was) ∙ n.ensures in
    let y = value_closes a.self.m.now a.st.at a.st.notes the-pre.0 (exactly a.finish.now) Amount a.f u.result u.ensures the-if1.false s w
    (stated the-with-sum.result) the-with-sum.ensures (stated c.at_place.result) c.at_place.ensures (stepped c.close.result) c.close.ensures.0
    c.close.ensures.1 in makes_by a.st.at _ (
      y.0,
      y.1,
      the-file.ensures ∙ value_placed a.self.m.now a.st.at a.st.notes the-pre.0 (exactly a.finish.now) Amount a.f u.result u.ensures the-if1.false s w
          a.places.now,
    )
