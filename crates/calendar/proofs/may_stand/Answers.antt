-- `calendar::may_stand` meets its contract.
use Rattle.std.proofs.Common.{◌∙◌}
use Rattle.text.proofs.Truths.{yes_of, no_of}
use Rattle.text.specs.Classes.{in_class}
use Rattle.calendar.specs.Pattern.{stands}
use Rattle.calendar.proofs.Written.{letter_ascii}
use Rattle.calendar.proofs.may_stand.Goals as goal

pub returns-then-is_ascii_alphabetic : goal.returns-then-is_ascii_alphabetic
unfolding stands in_class
returns-then-is_ascii_alphabetic c = simp (yes_of (c.is_ascii_alphabetic.ensures.value ∙ letter_ascii c.args.p) c.if-is_ascii_alphabetic.true) c.is_in.ensures

pub returns-else-is_ascii_alphabetic : goal.returns-else-is_ascii_alphabetic
unfolding stands
returns-else-is_ascii_alphabetic c = simp (no_of (c.is_ascii_alphabetic.ensures.value ∙ letter_ascii c.args.p) c.if-is_ascii_alphabetic.false)
