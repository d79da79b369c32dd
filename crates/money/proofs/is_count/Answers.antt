-- `money::is_count` meets its contract.
use Rattle.std.proofs.Common.{refl, length, ◌∙◌}
use Rattle.text.specs.Classes.{in_class}
use Rattle.text.proofs.Truths.{first_test, and_then, and_else}
use Rattle.text.proofs.Chains.{range_between}
use Rattle.money.specs.Count.{count_form}
use Rattle.money.proofs.is_count.Goals as goal

pub returns-then-contains : goal.returns-then-contains
unfolding count_form in_class
returns-then-contains c =
    let r = c.new.ensures in
    let f = first_test (c.contains.ensures.value ∙ range_between _ _ _ (length c.args.s.now) r.start r.end r.exhausted) in
    and_then _ f c.if-contains.true c.all_in.ensures

pub returns-else-contains : goal.returns-else-contains
unfolding count_form
returns-else-contains c =
    let r = c.new.ensures in
    let f = first_test (c.contains.ensures.value ∙ range_between _ _ _ (length c.args.s.now) r.start r.end r.exhausted) in
    and_else _ f _ c.if-contains.false refl
