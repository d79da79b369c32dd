-- `plain::is_end` meets its contract.
use mathlib.Core.Path.{◌∙◌}
use mathlib.Core.List.{[], ◌∷◌}
use lib.ListN.{take}
use Rattle.text.proofs.Chains.{alike_pointwise}
use Rattle.plain.specs.Engine.{closes}
use Rattle.plain.proofs.is_end.Goals as goal

pub returns : goal.returns
unfolding closes
returns c = c.starts_with.ensures.value ∙ alike_pointwise (60 ∷ 47 ∷ []) (take 2 c.args.s.now)
