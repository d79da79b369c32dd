-- `reader::Led::value` meets its contract.
use mathlib.Core.Path.{◌∙◌, refl}
use native.Mathlib.Omega.{arith}
use Rattle.std.proofs.lemmas.Result.{err_from_is_err_and}
use Rattle.table.specs.Table.{closes_by}
use Rattle.notes.specs.Steps.{stated, stepped}
use Rattle.engine.proofs.Steps.{value_fits, value_none, value_sum, value_good, value_stops, value_closes, none_placed, stops_placed, value_placed}
use Rattle.reader.proofs.Steps.{refused_at}
use Rattle.reader.proofs.Led.value.Goals as goal

pub overflow_add-e : goal.overflow_add-e
overflow_add-e c =
    let a = c.args in
    omega (arith, value_fits a.self.m.now a.st.at c.upto.result c.requires.0.within c.upto.ensures)

pub returns-then-e-self : goal.returns-then-e-self
returns-then-e-self c =
    let a = c.args in
    let g = c.requires in
    let u = c.upto in
    let y = value_none a.self.m.now a.st.at a.st.notes g.0 (closes_by a.self.names.now a.r) a.kind a.field u.result u.ensures c.if-e-self.true _ (refused_at _ _ c.at.ensures) in
    (y.0, y.1, none_placed a.self.m.now a.st.at a.st.notes g.0 (closes_by a.self.names.now a.r) a.kind a.field u.result u.ensures c.if-e-self.true a.places.now)

pub slice_bounds-note-end : goal.slice_bounds-note-end
slice_bounds-note-end c =
    let a = c.args in
    omega (arith, value_fits a.self.m.now a.st.at c.upto.result c.requires.0.within c.upto.ensures)

pub returns-in_err-noted : goal.returns-in_err-noted
returns-in_err-noted c =
    let a = c.args in
    let g = c.requires in
    let u = c.upto in
    let w = c.in_err-noted.ensures in
    let p = err_from_is_err_and c.from_residual.result c.from_residual.ensures.1 in
    let y = value_stops a.self.m.now a.st.at a.st.notes g.0 (closes_by a.self.names.now a.r) a.kind a.field u.result u.ensures c.if-e-self.false _ _ w _ refl in
    rw (p.1, p.2) (y.0, y.1, stops_placed a.self.m.now a.st.at a.st.notes g.0 (closes_by a.self.names.now a.r) a.kind a.field u.result u.ensures c.if-e-self.false _ _ w a.places.now)

pub add_up-requires : goal.add_up-requires
add_up-requires c =
    let a = c.args in
    let g = c.requires in
    let u = c.upto in
    let n = c.in_ok-noted in
    (value_sum a.self.m.now a.st.at a.st.notes g.0 (closes_by a.self.names.now a.r) a.kind a.field u.result u.ensures c.if-e-self.false (stated n.noted) n.ensures g.2)

pub overflow_cast-e : goal.overflow_cast-e
overflow_cast-e c =
    let a = c.args in
    omega (arith, value_fits a.self.m.now a.st.at c.upto.result c.requires.0.within c.upto.ensures, c.requires.0.small)

pub close-requires : goal.close-requires
close-requires c =
    let a = c.args in
    let g = c.requires in
    let u = c.upto in
    let n = c.in_ok-noted in
    (rw c.at_place.ensures (value_good a.self.m.now a.st.at a.st.notes g.0 (closes_by a.self.names.now a.r) a.kind a.field u.result u.ensures c.if-e-self.false (stated n.noted) n.ensures (stated c.add_up.result) c.add_up.ensures), g.1)

pub returns : goal.returns
returns c =
    let a = c.args in
    let g = c.requires in
    let u = c.upto in
    let n = c.in_ok-noted in
    let w = n.ensures in
    let y =
    value_closes a.self.m.now a.st.at a.st.notes g.0 (closes_by a.self.names.now a.r) a.kind a.field u.result u.ensures c.if-e-self.false (stated n.noted) w (stated c.add_up.result) c.add_up.ensures
    (stated c.at_place.result) c.at_place.ensures (stepped c.close.result) c.close.ensures.0 c.close.ensures.1 in
    (y.0, y.1, c.file.ensures ∙ (value_placed a.self.m.now a.st.at a.st.notes g.0 (closes_by a.self.names.now a.r) a.kind a.field u.result u.ensures c.if-e-self.false (stated n.noted) w a.places.now))
