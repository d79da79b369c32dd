-- `words::collapsed_length` meets its contract. The loop's invariant: `n`, and how many bytes what stands from `i` on becomes, are how many there are.
-- The measure is what is left of the value.
use mathlib.Core.Path.{ap}
use native.Mathlib.Omega.{arith}
use lib.ListN.{length}
use Rattle.words.proofs.Collapsed.{collapsed_le, collapsed_part}
use Rattle.words.proofs.Walk.{turn, count_go, count_end}
use Rattle.words.proofs.collapsed_length.Goals as goal

pub loop-i-init : goal.loop-i-init
loop-i-init c = (omega arith, omega (arith, ap length (collapsed_part c.args.s.now c.strip-p.result.now c.strip-p.ensures)))

pub overflow_add-i : goal.overflow_add-i
overflow_add-i c = omega (arith, turn c.strip-p.result.now c.loop-i.i c.run_of-i.result (omega arith) c.run_of-i.ensures)

pub overflow_add-n : goal.overflow_add-n
overflow_add-n c =
    let l = c.loop-i in
    omega (arith, l.invariant.1, collapsed_le c.args.s.now, ap length (turn c.strip-p.result.now c.loop-i.i c.run_of-i.result (omega arith) c.run_of-i.ensures).one)

pub loop-i-smaller : goal.loop-i-smaller
loop-i-smaller c = omega (arith, turn c.strip-p.result.now c.loop-i.i c.run_of-i.result (omega arith) c.run_of-i.ensures)

pub loop-i-preserved : goal.loop-i-preserved
loop-i-preserved c =
    let l = c.loop-i in
    ((turn c.strip-p.result.now c.loop-i.i c.run_of-i.result (omega arith) c.run_of-i.ensures).within, count_go c.strip-p.result.now l.n l.i c.run_of-i.result _ (turn c.strip-p.result.now c.loop-i.i c.run_of-i.result (omega arith) c.run_of-i.ensures) l.invariant.1)

pub returns : goal.returns
returns c =
    let l = c.loop-i in
    count_end c.strip-p.result.now l.n l.i 0 _ (omega arith) l.invariant.1
