-- `calendar::is_day` meets its contract.
use Rattle.std.proofs.Common.{refl, ◌∙◌}
use Rattle.text.proofs.Truths.{both_then, both_else}
use Rattle.text.proofs.Chains.{range_between}
use Rattle.calendar.specs.Date.{real_day}
use Rattle.calendar.proofs.is_day.Goals as goal

pub returns-then-contains : goal.returns-then-contains
unfolding real_day
returns-then-contains c =
    let a = c.args in
    let m = c.new.ensures in
    let d = c.new-then-contains.ensures in
    both_then (c.contains.ensures.value ∙ range_between _ _ _ a.m m.start m.end m.exhausted) c.if-contains.true
    (c.contains-then-contains.ensures.value ∙ range_between _ _ _ a.d d.start (d.end ∙ c.days_in.ensures) d.exhausted)

pub returns-else-contains : goal.returns-else-contains
unfolding real_day
returns-else-contains c =
    let m = c.new.ensures in
    both_else (c.contains.ensures.value ∙ range_between _ _ _ c.args.m m.start m.end m.exhausted) _ c.if-contains.false refl
