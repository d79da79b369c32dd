-- `judge::read_by` meets its contract.
use mathlib.Core.Path.{◌∙◌}
use Rattle.judge.specs.Survey.{surveyed_as}
use Rattle.judge.proofs.Ids.{found_second}
use Rattle.judge.proofs.Index.{too_short_lem, has_room, as_lent_lem}
use Rattle.judge.proofs.read_by.Goals as goal

pub returns-then-index-lt-LEAST_INDEX : goal.returns-then-index-lt-LEAST_INDEX
returns-then-index-lt-LEAST_INDEX c = (
  rw c.at.ensures (too_short_lem c.args.index.now _ _ c.if-index-lt-LEAST_INDEX.true),
  as_lent_lem c.args.index.now c.if-index-lt-LEAST_INDEX.true,
)

pub returns : goal.returns
returns c =
    let a = c.args in
    let the-if1 = c.if-index-lt-LEAST_INDEX in
    let b = c.read_but-s in
    let q = c.quickly in (
      c.unless_second.ensures
          ∙ (found_second a.m.now (surveyed_as b.result) b.ensures.0 b.new.places b.auto.places b.ensures.1 q.result q.ensures.0
          ∙ has_room a.index.now _ _ the-if1.false),
      q.ensures.1,
    )
