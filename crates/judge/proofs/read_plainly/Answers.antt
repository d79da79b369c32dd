-- `judge::read_plainly` meets its contract.
use mathlib.Core.Path.{◌∙◌}
use Rattle.judge.specs.Survey.{surveyed_as}
use Rattle.judge.proofs.Ids.{found_second}
use Rattle.judge.proofs.read_plainly.Goals as goal

pub returns : goal.returns
returns c =
    let a = c.args in
    let b = c.read_but-s in
    c.unless_second.ensures
    ∙ found_second a.m.now (surveyed_as b.result) b.ensures.0 b.new.places b.auto.places b.ensures.1 c.plainly.result c.plainly.ensures
