-- `straight::quick::alike_to` meets its contract.
use Rattle.std.proofs.Common.{◌+◌, ◌-◌, arith}
use Rattle.straight.proofs.Words.{match_join}
use Rattle.straight.proofs.quick.alike_to.Goals as goal

pub returns : goal.returns
returns c =
    let a = c.args in
    let h = c.requires in
    let n = a.n - 8 in (
      omega (arith, h, c.alike.ensures.0),
      match_join a.m.now a.p a.t.now a.i n c.alike-a.result c.alike.result c.alike-a.ensures.1 c.alike.ensures.1 (omega (arith, h))
          (n + c.alike.result) (omega arith),
    )
