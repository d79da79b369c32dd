-- `plain::measure` meets its contract.
use native.Mathlib.Omega.{arith}
use mathlib.Core.Path.{sym, ap}
use borrow.Author.Tests.{eqb-true, eqb-false}
use lib.ListN.{length}
use Rattle.plain.proofs.Pieces.{next_less, step_long, none_long}
use Rattle.plain.proofs.measure.Goals as goal

pub piece_length-n-requires : goal.piece_length-n-requires
piece_length-n-requires c = omega (arith, ap length c.piece_of-p.ensures.text, step_long c.loop-rest.rest.now (eqb-false _ _ (sym c.loop-rest-test.ensures)))

pub overflow_add-n : goal.overflow_add-n
overflow_add-n c = omega (arith, c.piece_length-n.ensures, ap length c.piece_of-p.ensures.text, step_long c.loop-rest.rest.now (eqb-false _ _ (sym c.loop-rest-test.ensures)))

pub loop-rest-smaller : goal.loop-rest-smaller
loop-rest-smaller c = omega (arith, ap length c.piece_of-p.ensures.next, next_less c.loop-rest.rest.now (eqb-false _ _ (sym c.loop-rest-test.ensures)))

pub loop-rest-preserved : goal.loop-rest-preserved
loop-rest-preserved c =
    rw c.piece_of-p.ensures.next (omega (arith, c.piece_length-n.ensures, ap length c.piece_of-p.ensures.text, step_long c.loop-rest.rest.now (eqb-false _ _ (sym c.loop-rest-test.ensures))))

pub returns : goal.returns
returns c = omega (arith, none_long c.loop-rest.rest.now (eqb-true _ _ (sym c.loop-rest-test.ensures)))
