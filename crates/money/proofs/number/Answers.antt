-- `money::number` meets its contract.
use native.Mathlib.Omega.{arith}
use Rattle.money.proofs.Numbers.{starts, ends, turn}
use Rattle.money.proofs.number.Goals as goal

pub loop-c-init : goal.loop-c-init
loop-c-init c = (starts _, c.requires.s_value)

pub overflow_mul-n : goal.overflow_mul-n
overflow_mul-n c = omega (arith, turn c.loop-c.n c.args.s.now c.loop-c.c-index (omega arith) c.requires.s_len_bound c.requires.s_value c.loop-c.invariant.0 c.loop-c.invariant.1)

pub overflow_sub-c : goal.overflow_sub-c
overflow_sub-c c = (turn c.loop-c.n c.args.s.now c.loop-c.c-index (omega arith) c.requires.s_len_bound c.requires.s_value c.loop-c.invariant.0 c.loop-c.invariant.1).low

pub overflow_add-n : goal.overflow_add-n
overflow_add-n c = omega (arith, c.from.ensures, turn c.loop-c.n c.args.s.now c.loop-c.c-index (omega arith) c.requires.s_len_bound c.requires.s_value c.loop-c.invariant.0 c.loop-c.invariant.1)

pub loop-c-preserved : goal.loop-c-preserved
loop-c-preserved c = let t = turn c.loop-c.n c.args.s.now c.loop-c.c-index (omega arith) c.requires.s_len_bound c.requires.s_value c.loop-c.invariant.0 c.loop-c.invariant.1 in rw c.from.ensures (t.same, t.rest)

pub returns : goal.returns
returns c = ends _ c.args.s.now c.loop-c.c-index (omega arith) c.loop-c.invariant.0
