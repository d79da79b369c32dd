-- `words::as_space` meets its contract: a blank counts as space, and any other byte is itself.
use mathlib.Core.Path.{sym}
use Rattle.text.proofs.Truths.{yes_of, no_of}
use Rattle.words.proofs.White.{blank_space, solid_itself}
use Rattle.words.proofs.as_space.Goals as goal

pub returns-then-is_blank : goal.returns-then-is_blank
returns-then-is_blank c = sym (blank_space _ (yes_of c.is_blank.ensures c.if-is_blank.true))

pub returns-else-is_blank : goal.returns-else-is_blank
returns-else-is_blank c = sym (solid_itself _ (no_of c.is_blank.ensures c.if-is_blank.false))
