-- `notes::keep_service` meets its contract.
use borrow.Author.Rules.{rules}
use Rattle.notes.specs.Notes.{service_kept}
use Rattle.notes.proofs.keep_service.Goals as goal

pub returns-then-may_follow : goal.returns-then-may_follow
unfolding service_kept
returns-then-may_follow c = search rules

pub returns-else-may_follow : goal.returns-else-may_follow
unfolding service_kept
returns-else-may_follow c = search rules
