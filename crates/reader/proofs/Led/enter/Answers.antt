-- `reader::Led::enter` meets its contract.
use mathlib.Core.Path.{◌∙◌, sym, refl}
use Rattle.std.proofs.lemmas.Result.{err_from_is_err_and}
use Rattle.table.specs.Table.{occ_of, mark_name, amount_due, width}
use Rattle.notes.specs.Steps.{stated, stepped}
use Rattle.reader.proofs.Steps.{enters_not, enters_amount, enters_plain, width_some}
use Rattle.reader.proofs.Led.enter.Goals as goal

pub returns-in_err-begun : goal.returns-in_err-begun
returns-in_err-begun c =
    let a = c.args in
    let g = c.requires in
    let p = err_from_is_err_and c.from_residual.result c.from_residual.ensures.1 in
    rw (p.1, p.2)
    (enters_not a.self.m.now a.st.at a.st.notes g.0 (occ_of a.r.occ) (mark_name a.r.typed) (amount_due a.r.what) (width a.r) g.1
    (width_some a.r g.2) _ _ c.in_err-begun.ensures _ refl)

pub returns-then-is_amount : goal.returns-then-is_amount
returns-then-is_amount c =
    let a = c.args in
    let g = c.requires in
    let b = c.in_ok-begun in
    enters_amount a.self.m.now a.st.at a.st.notes g.0 (occ_of a.r.occ) (mark_name a.r.typed) (amount_due a.r.what) (width a.r) g.1
    (width_some a.r g.2) (stated b.begun) b.ensures (stated c.at_place-t.result) c.width_of.result
    c.width_of.ensures c.at_place-t.ensures (sym c.is_amount.ensures ∙ c.if-is_amount.true)
    (stepped c.check_currency.result) c.check_currency.ensures

pub returns : goal.returns
returns c =
    let a = c.args in
    let g = c.requires in
    let b = c.in_ok-begun in
    enters_plain a.self.m.now a.st.at a.st.notes g.0 (occ_of a.r.occ) (mark_name a.r.typed) (amount_due a.r.what) (width a.r) g.1
    (width_some a.r g.2) (stated b.begun) b.ensures (stated c.at_place-t.result) c.width_of.result
    c.width_of.ensures c.at_place-t.ensures (sym c.is_amount.ensures ∙ c.if-is_amount.false) _ refl
