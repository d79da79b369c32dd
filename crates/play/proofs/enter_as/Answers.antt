-- `play::enter_as` meets its contract.
use Rattle.std.proofs.Common.{sym, ◌∙◌}
use borrow.Author.Tests.{not-true, not-false}
use Rattle.text.proofs.Chains.{alike_pointwise}
use Rattle.play.proofs.Enters.{other_key, same_key}
use Rattle.play.proofs.enter_as.Goals as goal

pub returns-then-ne-clause-step : goal.returns-then-ne-clause-step
returns-then-ne-clause-step c =
    let a = c.args in
    λ m e f. rw c.at.ensures (other_key a.line a.run a.entries.now m a.weighed.keyed e (sym (alike_pointwise a.weighed.keyed.key a.line.key) ∙ not-true _ (sym
    c.ne.ensures ∙ c.if-ne.true)))

pub returns-clause-step : goal.returns-clause-step
returns-clause-step c =
    let a = c.args in
    λ m e f. same_key a.line a.run a.entries.now m a.weighed.keyed e (sym (alike_pointwise a.weighed.keyed.key a.line.key) ∙ not-false _ (sym c.ne.ensures ∙
    c.if-ne.false)) a.weighed.lot f _ c.put_in.ensures.step
