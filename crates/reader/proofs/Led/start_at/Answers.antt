-- `reader::Led::start_at` meets its contract.
use mathlib.Core.Path.{◌∙◌, ap}
use Rattle.text.proofs.Scan.{rest_of}
use Rattle.tags.specs.Tags.{look}
use Rattle.table.specs.Table.{opens_by}
use Rattle.reader.proofs.Led.start_at.Goals as goal

pub returns : goal.returns
returns c =
    let a = c.args in
    c.opening.ensures ∙ ap (look (opens_by a.self.names.now a.r)) (rest_of a.at a.self.m.now)
