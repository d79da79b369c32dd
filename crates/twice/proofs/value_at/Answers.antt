-- `twice::value_at` meets its contract.
use Rattle.twice.proofs.Values.{value_long, value_is}
use Rattle.twice.proofs.value_at.Goals as goal

pub slice_bounds-result-end : goal.slice_bounds-result-end
slice_bounds-result-end c = value_long _ _ c.upto-n.ensures

pub returns : goal.returns
returns c =
    let a = c.args in
    value_is a.m.now _ a.p _ c.rest-s.ensures c.upto-n.ensures
