-- `sums::make_lot` meets its contract.
use mathlib.Core.Path.{ap, sym}
use native.Mathlib.Omega.{arith}
use Rattle.judge.specs.Survey.{from_one}
use Rattle.sums.proofs.Lots.{the_lot, service_few}
use Rattle.sums.proofs.make_lot.Goals as goal

pub overflow_add-service : goal.overflow_add-service
overflow_add-service c = omega (arith, service_few c.args.m.now c.args.s.now c.requires, ap from_one c.in-Some.is)

pub returns-in-Some : goal.returns-in-Some
returns-in-Some c = the_lot c.args.m.now c.args.s.now c.requires _ (omega (arith, ap from_one c.in-Some.is)) _ c.sum_up-sums.ensures

pub returns-in-None : goal.returns-in-None
returns-in-None c = the_lot c.args.m.now c.args.s.now c.requires _ (sym (ap from_one c.in-None.is)) _ c.sum_up-sums.ensures
