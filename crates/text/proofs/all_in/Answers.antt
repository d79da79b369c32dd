-- `text::all_in` meets its contract.
use Rattle.std.proofs.Common.{rules, tests, ◌∙◌}
use Rattle.std.proofs.lemmas.Iterator.{YieldsList-from_slice}
use Rattle.std.proofs.lemmas.Iterator.Search.{all_from_yields_List}
use Rattle.text.specs.Classes.{holds, in_class}
use Rattle.text.proofs.Chains.{all_every}
use Rattle.text.proofs.Scan.{every_same}
use Rattle.text.proofs.all_in.Goals as goal

pub returns : goal.returns
returns c =
    let m = c.mask_of-m in
    let s = c.args.s.now in
    all_from_yields_List (holds m.result) _ _ c.all.result c.all.ensures.ran (YieldsList-from_slice s cc) (λ x b q k. search (rules, tests))
    ∙ all_every (holds m.result) s ∙ every_same (holds m.result) (in_class _) m.ensures s
