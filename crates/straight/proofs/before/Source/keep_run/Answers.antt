-- `straight::before::Source::keep_run` meets its contract.
use Rattle.std.proofs.Common.{◌-◌, get_or}
use Rattle.straight.specs.Kept.{unknown}
use Rattle.straight.proofs.Kept.{kept_run, spelled_as}
use Rattle.straight.proofs.before.Source.keep_run.Goals as goal

pub returns : goal.returns
returns c =
    let a = c.args in
    let h = c.requires in
    let w = (get_or a.before.now.runs a.j unknown).waits in
    kept_run a.self.m.now a.self.v a.before.now a.j (record { place = a.at; length = a.e - a.at; waits = w }) h.2 h.0 (spelled_as a.self.m.now a.at a.j a.e w h.1)
