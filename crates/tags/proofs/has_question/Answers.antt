-- `tags::has_question` meets its contract.
use mathlib.Core.Path.{◌∙◌}
use mathlib.Core.List.{[], ◌∷◌}
use lib.ListN.{take}
use Rattle.text.proofs.Chains.{alike_pointwise}
use Rattle.tags.specs.Tags.{starts_question}
use Rattle.tags.proofs.has_question.Goals as goal

pub returns : goal.returns
unfolding starts_question
returns c = c.starts_with.ensures.value ∙ alike_pointwise (60 ∷ 63 ∷ []) (take 2 c.args.s.now)
