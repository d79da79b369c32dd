-- `calendar::is_leap` meets its contract.
use Rattle.text.proofs.Truths.{tests}
use Rattle.calendar.specs.Date.{leap}
use Rattle.calendar.proofs.is_leap.Goals as goal

pub returns-then-y-ne0 : goal.returns-then-y-ne0
unfolding leap
returns-then-y-ne0 c = search tests

pub returns-else-y-ne0 : goal.returns-else-y-ne0
unfolding leap
returns-else-y-ne0 c = search tests

pub returns-else-y-eq0 : goal.returns-else-y-eq0
unfolding leap
returns-else-y-eq0 c = search tests
