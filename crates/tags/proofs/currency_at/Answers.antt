-- `tags::currency_at` meets its contract.
use mathlib.Core.Path.{◌∙◌, sym}
use native.Mathlib.Omega.{arith}
use borrow.Author.Tests.{ltb-true, ltb-false}
use Rattle.text.specs.Classes.{capital}
use Rattle.text.proofs.Truths.{yes_of}
use Rattle.tags.specs.Tags.{currency}
use Rattle.tags.proofs.Looks.{look_cut, look_go}
use Rattle.tags.proofs.currency_at.Goals as goal

pub returns-in_default : goal.returns-in_default
returns-in_default c =
    let l = c.loop-i in
    let a = c.args in
    sym (look_cut capital currency a.s.now l.i (omega arith) (omega (arith, ltb-false _ _ (sym c.in_default.ensures.lookup.0)))) ∙ l.invariant.1

pub loop-i-preserved : goal.loop-i-preserved
loop-i-preserved c =
    let l = c.loop-i in
    let a = c.args in
    let g = c.in-Some.ensures.lookup in
    (omega arith, sym (look_go capital currency a.s.now l.i (omega arith) (ltb-true _ _ (sym g.0)) (rw (← g.3.1 0) (yes_of c.passes.ensures c.if-not-passes.false))) ∙ l.invariant.1)
