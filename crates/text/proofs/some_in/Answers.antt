-- `text::some_in` meets its contract.
use Rattle.std.proofs.Common.{rules, tests, ◌∙◌}
use Rattle.std.proofs.lemmas.Iterator.{YieldsList-from_slice}
use Rattle.std.proofs.lemmas.Iterator.Search.{any_from_yields_List}
use Rattle.text.specs.Classes.{holds, in_class}
use Rattle.text.proofs.Chains.{any_some}
use Rattle.text.proofs.Scan.{some_same}
use Rattle.text.proofs.some_in.Goals as goal

pub returns : goal.returns
returns c =
    let m = c.mask_of-m in
    let s = c.args.s.now in
    any_from_yields_List (holds m.result) _ _ c.any.result c.any.ensures.ran (YieldsList-from_slice s cc) (λ x b q k. search (rules, tests))
    ∙ any_some (holds m.result) s ∙ some_same (holds m.result) (in_class _) m.ensures s
