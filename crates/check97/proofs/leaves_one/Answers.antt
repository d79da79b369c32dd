-- `check97::leaves_one` meets its contract.
use Rattle.check97.proofs.Turned.{leaves_one_lem}
use Rattle.check97.proofs.leaves_one.Goals as goal

pub returns : goal.returns
returns c =
    let a = c.args in
    leaves_one_lem a.s.now a.moved.now c.remainder.result c.remainder-2.result c.remainder.ensures c.remainder-2.ensures
