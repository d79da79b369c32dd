-- `calendar::date` meets its contract.
use Rattle.answers.proofs.Rules.{last_rule}
use Rattle.calendar.specs.Date.{date_given}
use Rattle.calendar.proofs.date.Goals as goal

pub returns : goal.returns
unfolding date_given
returns c = last_rule _ _ c.require.ensures c.is_date.ensures
