-- `tags::in_euro` meets its contract.
use mathlib.Core.Path.{◌∙◌}
use native.Mathlib.Omega.{arith}
use borrow.Author.Tests.{lt-leb}
use Rattle.text.proofs.Scan.{rest_of}
use Rattle.tags.proofs.Euro.{past_end, as_seen}
use Rattle.tags.proofs.in_euro.Goals as goal

pub returns-then-from-m : goal.returns-then-from-m
returns-then-from-m c =
    let p = c.currency_place-from in
    c.starts_with.ensures.value ∙ as_seen c.args.m.now c.args.at p.result p.ensures _ (rest_of p.result c.args.m.now)

pub returns-else-from-m : goal.returns-else-from-m
returns-else-from-m c =
    let p = c.currency_place-from in
    lt-leb _ _ (omega arith) ∙ past_end c.args.m.now c.args.at p.result p.ensures (omega arith)
