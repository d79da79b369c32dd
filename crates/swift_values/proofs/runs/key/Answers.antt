-- `swift_values::runs::key` meets its contract.
use mathlib.Core.Path.{sym, ◌∙◌}
use Rattle.swift_values.proofs.Lanes.{unlike}
use Rattle.swift_values.proofs.runs.key.Goals as goal

pub returns-then-ok : goal.returns-then-ok
returns-then-ok c = λ e. unlike (sym e ∙ c.if-ok.true)
