-- `words::collapse` meets its contract. The loop's invariant: `n` bytes of the collapsed value are written, and what stands from `i` on becomes the others.
use native.Mathlib.Omega.{arith}
use Rattle.words.proofs.Collapsed.{collapsed_part}
use Rattle.words.proofs.Walk.{turn, laid_none, laid_length, laid_turn, laid_full, laid_end}
use Rattle.words.proofs.collapse.Goals as goal

pub loop-n-init : goal.loop-n-init
loop-n-init c = (omega arith, laid_none _ _ (collapsed_part _ _ c.strip-p.ensures))

pub shape_of-to-then-p-i : goal.shape_of-to-then-p-i
shape_of-to-then-p-i c = laid_length _ _ c.loop-n.invariant.1

pub returns-then-p-i : goal.returns-then-p-i
returns-then-p-i c = laid_end _ _ _ c.loop-n.i c.if-p-i.true c.loop-n.invariant.1

pub overflow_add-i : goal.overflow_add-i
overflow_add-i c = omega (arith, turn c.strip-p.result.now c.loop-n.i c.run_of-i.result (omega arith) c.run_of-i.ensures)

pub loop-n-preserved : goal.loop-n-preserved
loop-n-preserved c =
    let l = c.loop-n in
    ((turn c.strip-p.result.now c.loop-n.i c.run_of-i.result (omega arith) c.run_of-i.ensures).within, laid_turn _ _ _ l.i _ _ (turn c.strip-p.result.now c.loop-n.i c.run_of-i.result (omega arith) c.run_of-i.ensures) c.as_space.ensures (omega arith) l.invariant.1)

pub shape_of-to : goal.shape_of-to
shape_of-to c = laid_length _ _ c.loop-n.invariant.1

pub returns : goal.returns
returns c = laid_full _ _ (omega arith) c.loop-n.invariant.1
