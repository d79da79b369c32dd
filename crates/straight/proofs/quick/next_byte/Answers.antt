-- `straight::quick::next_byte` meets its contract.
use Rattle.std.proofs.Common.{◌≡◌, arith}
use Rattle.std.proofs.lemmas.Option.{IfSome_then}
use Rattle.straight.proofs.Spelled.{onto_behind}
use Rattle.engine.proofs.Steps.{spaces_fit}
use Rattle.straight.proofs.quick.next_byte.Goals as goal

pub overflow_add-p : goal.overflow_add-p
overflow_add-p c = omega (arith, spaces_fit c.args.m.now c.args.p c.spaces-w.result c.requires c.spaces-w.ensures)

pub byte_at-requires-2 : goal.byte_at-requires-2
byte_at-requires-2 c = spaces_fit c.args.m.now c.args.p c.spaces-w.result c.requires c.spaces-w.ensures

pub returns : goal.returns
returns c =
    let a = c.args in
    let w = c.spaces-w in
    let z = c.byte_at-2 in
    let h : a.c ≡ 60 = omega arith in
    rw h (IfSome_then z.result z.ensures (λ r e. onto_behind a.m.now a.p w.result r w.ensures (omega arith) e))
