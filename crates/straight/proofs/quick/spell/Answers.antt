-- `straight::quick::spell` meets its contract.
use Rattle.std.proofs.Common.{◌+◌, ◌≤◌, length, arith}
use Rattle.std.proofs.lemmas.Option.{IfSome_then}
use Rattle.straight.proofs.Spelled.{sofar_all, sofar_turn, sofar_then}
use Rattle.straight.proofs.quick.spell.Goals as goal

pub returns-in_default : goal.returns-in_default
returns-in_default c =
    let a = c.args in
    let l = c.loop-i in
    let z = c.by_bytes in
    IfSome_then z.result z.ensures (λ r e. sofar_then a.m.now a.at a.text.now l.i l.p r l.invariant.1 l.invariant.0 e)

pub loop-i-preserved : goal.loop-i-preserved
loop-i-preserved c =
    let a = c.args in
    let l = c.loop-i in
    let n = c.tag_length-n in
    let w = c.in-Some.w in
    let f = rw c.in-Some.is at c.white_before.ensures in
    let same = c.same_tag in
    let k = same.ensures c.if-not-same_tag.false in
    let g : l.i + n.result ≤ length a.text.now = omega (arith, n.ensures, l.invariant.3) in (
      sofar_turn a.m.now a.at a.text.now l.i l.p w n.result l.invariant.0 (omega (arith, c.loop-i-test)) f.2 f.3 k.1 g (omega (arith, f.0, f.1)),
      l.invariant.1,
      omega (arith, l.invariant.2),
      g,
      omega (arith, l.invariant.4, k.0),
    )

pub returns : goal.returns
returns c =
    let a = c.args in
    let l = c.loop-i in
    sofar_all a.m.now a.at a.text.now l.i l.p l.invariant.1 c.requires.1 (omega arith) l.invariant.0
