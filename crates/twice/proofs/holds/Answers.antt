-- `twice::holds` meets its contract.
use Rattle.std.proofs.Common.{length, take, sym, ◌∙◌}
use Rattle.text.proofs.Chains.{alike_pointwise}
use Rattle.twice.proofs.Values.{ends_long, holds_not, holds_same}
use Rattle.twice.proofs.holds.Goals as goal

pub slice_bounds-eq-end : goal.slice_bounds-eq-end
slice_bounds-eq-end c = ends_long _ _ (sym c.if-ends_at.ensures)

pub returns-then-ends_at : goal.returns-then-ends_at
returns-then-ends_at c =
    let a = c.args in
    let s = c.rest-s in
    holds_same a.m.now s.result.now a.v.now a.p s.ensures c.requires _ _ c.ends_at.ensures c.if-ends_at.true (c.eq.ensures ∙ alike_pointwise (take (length a.v.now) s.result.now) a.v.now)

pub returns-else-ends_at : goal.returns-else-ends_at
returns-else-ends_at c =
    let a = c.args in
    let s = c.rest-s in
    c.if-ends_at.false ∙ holds_not a.m.now s.result.now a.v.now a.p s.ensures c.requires _ c.ends_at.ensures c.if-ends_at.false
