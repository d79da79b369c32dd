-- `calendar::time` meets its contract.
use Rattle.answers.proofs.Rules.{last_rule}
use Rattle.calendar.specs.Time.{time_given}
use Rattle.calendar.proofs.time.Goals as goal

pub returns : goal.returns
unfolding time_given
returns c = last_rule _ _ c.require.ensures c.is_time.ensures
