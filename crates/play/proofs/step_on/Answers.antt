-- `play::step_on` meets its contract: what is left to say is the withdrawal.
use borrow.Author.Tests.{le-ltb}
use Rattle.play.specs.Play.{withdraws}
use Rattle.play.proofs.step_on.Goals as goal

pub returns-in-Withdrawal-clause-step : goal.returns-in-Withdrawal-clause-step
unfolding withdraws
returns-in-Withdrawal-clause-step c =
    rw (c.in-Some.is, c.in-Withdrawal.is, le-ltb c.in-Some.line.instant c.args.run.last c.if-line-run.false) c.take_out.ensures.step
