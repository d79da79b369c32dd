-- `straight::before::Source::as_before` meets its contract.
use Rattle.std.proofs.Common.{get_or}
use Rattle.std.proofs.lemmas.Option.{IfSome_then}
use Rattle.straight.specs.Kept.{unknown}
use Rattle.straight.proofs.Runs.{run_again}
use Rattle.straight.proofs.before.Source.as_before.Goals as goal

pub returns : goal.returns
returns c =
    let a = c.args in
    let h = c.requires in
    IfSome_then c.again.result c.again.ensures (λ r e. run_again a.self.m.now a.at a.j r (get_or a.before.now.runs a.j unknown) (h.2.each a.j h.1) e.0 e.1)
