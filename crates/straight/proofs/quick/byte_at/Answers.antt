-- `straight::quick::byte_at` meets its contract.
use Rattle.std.proofs.Common.{arith}
use Rattle.straight.proofs.Spelled.{onto_here}
use Rattle.straight.proofs.quick.byte_at.Goals as goal

pub returns-then-m-p : goal.returns-then-m-p
returns-then-m-p c =
    let a = c.args in
    onto_here a.m.now a.p a.c (omega arith) (omega arith) (omega arith)
