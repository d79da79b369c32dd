-- `judge::version_of` meets its contract.
use mathlib.Core.Path.{ap, sym}
use Rattle.judge.specs.Verdict.{opened_as, version_in}
use Rattle.judge.proofs.Begins.{version_is}
use Rattle.judge.proofs.version_of.Goals as goal

pub returns-in-Ok : goal.returns-in-Ok
returns-in-Ok c =
    let o = c.open_message in
    version_is c.args.m.now (opened_as o.result) o.ensures.0 _ (ap (λ x. version_in (opened_as x)) (sym c.in-Ok.is))

pub returns-in-Err : goal.returns-in-Err
returns-in-Err c =
    let o = c.open_message in
    version_is c.args.m.now (opened_as o.result) o.ensures.0 _ (ap (λ x. version_in (opened_as x)) (sym c.in-Err.is))
