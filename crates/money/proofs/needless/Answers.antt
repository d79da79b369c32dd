-- `money::needless` meets its contract: as many zeros as lead, but not the last digit.
use Rattle.std.proofs.Common.{rules, tests, ◌∙◌, arith}
use Rattle.std.proofs.lemmas.Iterator.{YieldsList-from_slice}
use Rattle.std.proofs.lemmas.Iterator.Consumers.{count_from_yields_List}
use Rattle.std.proofs.lemmas.Iterator.Search.{YieldsList-from_take_while}
use Rattle.std.proofs.lemmas.List.Folds.{length-prefix_len}
use Rattle.text.proofs.Chains.{lead_prefix}
use Rattle.money.proofs.Plain.{zero_byte, zeros_lead}
use Rattle.money.proofs.needless.Goals as goal

pub returns : goal.returns
returns c =
    let s = c.args.s.now in
    let t = c.take_while in
    let n = count_from_yields_List t.result _ c.count-zeros.ensures.ran
    (YieldsList-from_take_while _ zero_byte (YieldsList-from_slice s cc) t.ensures.closure t.ensures.done (λ x b q k. search (rules, tests)))
    ∙ length-prefix_len zero_byte s ∙ lead_prefix zero_byte s in
    (rw (c.min.ensures, c.saturating_sub.ensures, n) (zeros_lead s), omega arith)
