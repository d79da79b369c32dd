-- `records::wherever` meets its contract: by where the item's own value begins.
use mathlib.Core.Path.{◌∙◌, ap}
use Rattle.records.specs.Engine.{start_of, own_or}
use Rattle.records.proofs.wherever.Goals as goal

pub returns : goal.returns
returns c =
    let a = c.args in
    c.or_above.ensures ∙ ap (own_or (start_of a.above a.f)) c.start_of.ensures
