-- `codes::code` meets its contract: the place of the code in the slice is its place in the list.
use Rattle.std.proofs.Common.{rules, tests, ap, sym, ◌∙◌, Ok, Err}
use Rattle.std.proofs.lemmas.Iterator.{YieldsList-from_slice}
use Rattle.std.proofs.lemmas.Iterator.Search.{position_from_yields_List}
use Rattle.std.proofs.lemmas.Iterator.Adapters.{position_from-zero}
use Rattle.std.proofs.lemmas.Result.{err_from_is_err_and}
use Rattle.codes.specs.Listed.{codes_of, code_given}
use Rattle.codes.proofs.Places.{meets, told, told_as, listed}
use Rattle.codes.proofs.code.Goals as goal

pub returns-in_err-i : goal.returns-in_err-i
unfolding code_given
returns-in_err-i c =
    let s = c.args.s.now in
    let l = c.codes_of.result.now in
    let p = err_from_is_err_and c.from_residual.result c.from_residual.ensures.1 in
    rw (p.1, p.2)
    (sym (told_as c.position.result (Err c.in_err-i.field-0.0) (sym c.ok_or.ensures.value ∙ c.in_err-i.was))
    ∙ ap told (position_from_yields_List (meets s) _ _ c.position.result c.position.ensures.ran (YieldsList-from_slice l cc) (λ x b q k. search (rules, tests)) ∙ position_from-zero (meets s) l)
    ∙ listed s 0 l (codes_of c.args.e) c.codes_of.ensures)

pub returns : goal.returns
unfolding code_given
returns c =
    let s = c.args.s.now in
    let l = c.codes_of.result.now in
    sym (told_as c.position.result (Ok c.in_ok-i.i) (sym c.ok_or.ensures.value ∙ c.in_ok-i.was))
    ∙ ap told (position_from_yields_List (meets s) _ _ c.position.result c.position.ensures.ran (YieldsList-from_slice l cc) (λ x b q k. search (rules, tests)) ∙ position_from-zero (meets s) l)
    ∙ listed s 0 l (codes_of c.args.e) c.codes_of.ensures
