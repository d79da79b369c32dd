-- `calendar::is_written` meets its contract: each character is told beside the pattern's.
use Rattle.std.proofs.Common.{rules, tests, sym, ◌∙◌}
use Rattle.std.proofs.lemmas.Iterator.{YieldsList-from_slice, YieldsList-from_zip}
use Rattle.std.proofs.lemmas.Iterator.Search.{all_from_yields_List}
use borrow.Author.Tests.{ne_eqb}
use Rattle.text.proofs.Scan.{paired_length}
use Rattle.text.proofs.Chains.{all_paired}
use Rattle.calendar.specs.Pattern.{stands}
use Rattle.calendar.proofs.is_written.Goals as goal

pub returns-then-t-s : goal.returns-then-t-s
returns-then-t-s c =
    let t = c.args.t.now in
    let s = c.args.s.now in
    all_from_yields_List (λ p. stands p.0 p.1) c.all.new.self _ c.all.result c.all.ensures.ran (YieldsList-from_zip (YieldsList-from_slice t cc) (YieldsList-from_slice s cc)) (λ x b q k. search (rules, tests))
    ∙ all_paired stands t s c.if-t-s.true

pub returns-else-t-s : goal.returns-else-t-s
returns-else-t-s c = ne_eqb _ _ c.if-t-s.false ∙ sym (paired_length stands c.args.t.now c.args.s.now c.if-t-s.false)
