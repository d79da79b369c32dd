-- `judge::begin_at` meets its contract.
use native.Mathlib.Omega.{arith}
use Rattle.judge.proofs.Begins.{spaces_within, skipped_is, past_end}
use Rattle.judge.proofs.begin_at.Goals as goal

pub returns-then-m-at : goal.returns-then-m-at
returns-then-m-at c = past_end c.args.m.now c.args.at c.if-m-at.true

pub overflow_add-result : goal.overflow_add-result
overflow_add-result c = omega (arith, spaces_within c.args.m.now c.args.at c.spaces.result c.if-m-at.false c.spaces.ensures)

pub returns : goal.returns
returns c = skipped_is c.args.m.now c.args.at c.spaces.result c.spaces.ensures
