-- `plain::spelling_by` meets its contract, test by test.
use Rattle.std.proofs.Common.{arith}
use Rattle.std.proofs.lemmas.Grind.{common_steps}
use Rattle.plain.specs.Engine.{spelling_by}
use Rattle.plain.proofs.spelling_by.Goals as goal

pub returns-then-not-is_end : goal.returns-then-not-is_end
unfolding spelling_by
returns-then-not-is_end c = grind (arith, common_steps)

pub returns-then-is_count : goal.returns-then-is_count
unfolding spelling_by
returns-then-is_count c = grind (arith, common_steps)

pub returns-then-is_quoted : goal.returns-then-is_quoted
unfolding spelling_by
returns-then-is_quoted c = grind (arith, common_steps)

pub returns-then-is_words : goal.returns-then-is_words
unfolding spelling_by
returns-then-is_words c = grind (arith, common_steps)

pub returns-else-is_words : goal.returns-else-is_words
unfolding spelling_by
returns-else-is_words c = grind (arith, common_steps)
