-- `judge::walk` meets its contract.
use native.Mathlib.Omega.{arith}
use Prim.Native.Nat.{◌+◌, ◌-◌}
use Rattle.notes.specs.Steps.{stated}
use Rattle.judge.proofs.Walks.{walk_on}
use Rattle.judge.proofs.walk.Goals as goal

pub loop-preserved : goal.loop-preserved
loop-preserved c =
    walk_on c.args.v c.args.m.now (c.args.i - c.loop.counter) c.loop.at _ c.loop.invariant (stated c.in_ok-at.field-0) c.in_ok-at.ensures.0
    (c.args.i - (c.loop.counter + 1)) (omega arith)
