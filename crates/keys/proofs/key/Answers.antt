-- `keys::key` meets its contract.
use mathlib.Core.Path.{◌∙◌}
use Rattle.keys.proofs.Whole.{from_survey_with}
use Rattle.keys.proofs.key.Goals as goal

pub returns : goal.returns
returns c = (c.key_from.ensures ∙ from_survey_with c.args.index.now c.args.m.now _ c.read.ensures.0, c.read.ensures.1)
