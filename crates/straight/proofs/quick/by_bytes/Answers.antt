-- `straight::quick::by_bytes` meets its contract.
use Rattle.std.proofs.Common.{arith}
use Rattle.straight.proofs.Spelled.{sofar_more, sofar_all}
use Rattle.straight.proofs.quick.by_bytes.Goals as goal

pub loop-i-preserved : goal.loop-i-preserved
loop-i-preserved c =
    let a = c.args in
    let l = c.loop-i in
    let q = c.in_ok-p in
    (sofar_more a.m.now a.at a.text.now l.i l.p q.p l.invariant.0 (omega arith) q.ensures, omega arith, omega (arith, q.ensures.from))

pub returns : goal.returns
returns c =
    let a = c.args in
    let l = c.loop-i in
    sofar_all a.m.now a.at a.text.now l.i l.p (omega arith) c.requires.1 (omega arith) l.invariant.0
