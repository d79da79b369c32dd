-- `text::run_in` meets its contract.
use Rattle.std.proofs.Common.{rules, tests, ◌∙◌}
use Rattle.std.proofs.lemmas.Iterator.{YieldsList-from_slice}
use Rattle.std.proofs.lemmas.Iterator.Consumers.{count_from_yields_List}
use Rattle.std.proofs.lemmas.Iterator.Search.{YieldsList-from_take_while}
use Rattle.std.proofs.lemmas.List.Folds.{length-prefix_len}
use Rattle.text.specs.Classes.{holds, in_class}
use Rattle.text.proofs.Chains.{lead_prefix}
use Rattle.text.proofs.Scan.{lead_same}
use Rattle.text.proofs.run_in.Goals as goal

pub returns : goal.returns
returns c =
    let m = c.mask_of-m in
    let s = c.args.s.now in
    let t = c.take_while in
    count_from_yields_List t.result _ c.count.ensures.ran
    (YieldsList-from_take_while _ (holds m.result) (YieldsList-from_slice s cc) t.ensures.closure t.ensures.done (λ x b q k. search (rules, tests)))
    ∙ length-prefix_len (holds m.result) s ∙ lead_prefix (holds m.result) s ∙ lead_same (holds m.result) (in_class _) m.ensures s
