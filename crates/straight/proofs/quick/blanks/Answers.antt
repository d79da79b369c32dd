-- `straight::quick::blanks` meets its contract.
use Rattle.std.proofs.Common.{arith}
use Rattle.text.proofs.Truths.{yes_of}
use Rattle.straight.proofs.Spelled.{white_one, white_two, white_more}
use Rattle.straight.proofs.quick.blanks.Goals as goal

pub returns-then-not-is_white-2 : goal.returns-then-not-is_white-2
returns-then-not-is_white-2 c =
    let a = c.args in
    (omega arith, white_one a.m.now a.p (omega (arith, c.requires)) (yes_of c.is_white.ensures c.if-not-is_white.false))

pub returns-then-not-is_white-3 : goal.returns-then-not-is_white-3
returns-then-not-is_white-3 c =
    let a = c.args in (
      omega arith,
      white_two a.m.now a.p (omega (arith, c.requires)) (yes_of c.is_white.ensures c.if-not-is_white.false) (yes_of c.is_white-2.ensures c.if-not-is_white-2.false),
    )

pub returns : goal.returns
returns c =
    let a = c.args in
    let k = c.alike_to.ensures in (
      omega (arith, k.0),
      white_more a.m.now a.p c.alike_to.result (omega (arith, k.0, c.requires)) (yes_of c.is_white.ensures c.if-not-is_white.false)
          (yes_of c.is_white-2.ensures c.if-not-is_white-2.false) (yes_of c.is_white-3.ensures c.if-not-is_white-3.false) k.1,
    )
