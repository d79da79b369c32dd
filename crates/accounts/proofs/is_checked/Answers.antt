-- `accounts::is_checked` meets its contract.
use mathlib.Core.Path.{◌∙◌}
use native.Mathlib.Omega.{arith}
use Rattle.text.proofs.Chains.{range_between}
use Rattle.accounts.proofs.Forms.{checked_then, checked_else}
use Rattle.accounts.proofs.is_checked.Goals as goal

pub returns-then-contains : goal.returns-then-contains
returns-then-contains c =
    let a = c.args in
    let r = c.new.ensures in
    checked_then a.s.now a.m (omega arith) c.pair.ensures (c.contains.ensures.value ∙ range_between _ _ _ c.pair.result r.start r.end r.exhausted) c.if-contains.true c.leaves_one.ensures

pub returns-else-contains : goal.returns-else-contains
returns-else-contains c =
    let a = c.args in
    let r = c.new.ensures in
    checked_else a.s.now a.m (omega arith) c.pair.ensures (c.contains.ensures.value ∙ range_between _ _ _ c.pair.result r.start r.end r.exhausted) c.if-contains.false
