-- `judge::enter_root` meets its contract.
use mathlib.Core.Path.{ap}
use native.Mathlib.Omega.{arith}
use Rattle.answers.specs.declared.Refused.{Refused}
use Rattle.answers.specs.Refusals.{refusal_number}
use Rattle.reading.specs.Trace.{faulty}
use Rattle.judge.specs.Verdict.{opened_as}
use Rattle.judge.proofs.Begins.{spaces_within, skipped_is, rooted_is}
use Rattle.judge.proofs.enter_root.Goals as goal

pub overflow_add-at : goal.overflow_add-at
overflow_add-at c = omega (arith, spaces_within c.args.m.now c.args.from c.spaces.result c.requires c.spaces.ensures)

pub root_or-newer-requires : goal.root_or-newer-requires
root_or-newer-requires c =
    let h = spaces_within c.args.m.now c.args.from c.spaces.result c.requires c.spaces.ensures in
    (h, rw c.at.ensures h)

pub root_or-requires : goal.root_or-requires
root_or-requires c = (spaces_within c.args.m.now c.args.from c.spaces.result c.requires c.spaces.ensures, c.root_or-newer.ensures.1)

pub returns : goal.returns
returns c =
    let a = c.args in
    let s = c.spaces in (
      rooted_is a.m.now a.from _ (skipped_is a.m.now a.from s.result s.ensures) _ (opened_as c.root_or-newer.result)
          (opened_as c.root_or.result) c.root_or-newer.ensures.0 (ap (λ (r : Refused). faulty (refusal_number r.why) r.at) c.at.ensures) c.root_or.ensures.0,
      c.root_or.ensures.1,
    )
