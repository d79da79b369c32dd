-- `twice::probe` meets its contract.
use Rattle.std.proofs.Common.{ap, ◌∙◌}
use Rattle.twice.specs.Engine.{mix, numbers_in}
use Rattle.twice.proofs.Values.{value_clean}
use Rattle.twice.proofs.Walks.{probe_is}
use Rattle.twice.proofs.probe.Goals as goal

pub steps-requires : goal.steps-requires
steps-requires c =
    let a = c.args in
    let p = c.requires in
    (value_clean a.m.now _ a.p c.value_at-v.ensures, p.0, c.mix-h.ensures, p.1)

pub returns : goal.returns
returns c =
    let a = c.args in
    let v = c.value_at-v in
    let h = c.mix-h in
    let x = probe_is a.m.now a.places.now (numbers_in a.index.now) v.result.now _ h.result c.steps.result v.ensures h.ensures
    c.steps.ensures.0 in
    (x.0, x.1, h.ensures ∙ ap mix v.ensures)
