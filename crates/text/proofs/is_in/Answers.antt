-- `text::is_in` meets its contract.
use mathlib.Core.Path.{◌∙◌}
use Rattle.text.proofs.is_in.Goals as goal

pub returns : goal.returns
returns c = c.is_held.ensures ∙ c.mask_of.ensures _
