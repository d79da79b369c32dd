-- `words::blanks` meets its contract.
use Rattle.std.proofs.Common.{rules, tests, ◌∙◌}
use Rattle.std.proofs.lemmas.Iterator.{YieldsList-from_slice}
use Rattle.std.proofs.lemmas.Iterator.Consumers.{count_from_yields_List}
use Rattle.std.proofs.lemmas.Iterator.Search.{YieldsList-from_take_while}
use Rattle.std.proofs.lemmas.List.Folds.{length-prefix_len}
use Rattle.text.proofs.Chains.{lead_prefix}
use Rattle.words.specs.Walk.{blank}
use Rattle.words.proofs.blanks.Goals as goal

pub returns : goal.returns
returns c =
    let s = c.args.s.now in
    let t = c.take_while in
    count_from_yields_List t.result _ c.count.ensures.ran
    (YieldsList-from_take_while _ blank (YieldsList-from_slice s cc) t.ensures.closure t.ensures.done (λ x b q k. search (rules, tests)))
    ∙ length-prefix_len blank s ∙ lead_prefix blank s
