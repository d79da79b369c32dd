-- `straight::quick::alike` meets its contract.
use Rattle.std.proofs.Common.{◌/◌, refl, arith}
use lib.Count.{count_trailing_zeros, trailing_le}
use Rattle.straight.proofs.Spelled.{words_alike}
use Rattle.straight.proofs.quick.alike.Goals as goal

pub overflow_cast-result : goal.overflow_cast-result
overflow_cast-result c = omega (arith, trailing_le 64 c.wrapping_sub_u64-d.result)

pub returns : goal.returns
returns c =
    let a = c.args in
    let d = c.wrapping_sub_u64-d.result in
    words_alike a.m.now a.p a.t.now a.i c.word.result c.word-2.result d (count_trailing_zeros 64 d / 8) c.word.ensures c.word-2.ensures c.wrapping_sub_u64-d.ensures.value refl
