-- `text::is_held` meets its contract.
use borrow.Author.Tests.{lt-ltb, le-ltb}
use Rattle.text.specs.Classes.{holds}
use Rattle.text.proofs.is_held.Goals as goal

pub returns-then-c-lt128 : goal.returns-then-c-lt128
unfolding holds
returns-then-c-lt128 c = simp (lt-ltb _ _ c.if-c-lt128.true)

pub returns-else-c-lt128 : goal.returns-else-c-lt128
unfolding holds
returns-else-c-lt128 c = simp (le-ltb _ _ c.if-c-lt128.false)
