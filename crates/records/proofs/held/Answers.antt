-- `records::held` meets its contract: there is no value at the place, or there is one.
use mathlib.Core.Path.{◌∙◌}
use Rattle.records.proofs.Fields.{none_held, value_held}
use Rattle.records.proofs.held.Goals as goal

pub returns-then-none_at : goal.returns-then-none_at
returns-then-none_at c = none_held c.args.m.now c.args.start c.none_at.result c.none_at.ensures c.if-none_at.true

pub returns : goal.returns
returns c = c.value_at.ensures ∙ value_held c.args.m.now c.args.start c.none_at.result c.none_at.ensures c.if-none_at.false
