-- `swift_values::quick_amounts::leading` meets its contract.
use native.Mathlib.Omega.{arith}
use mathlib.Core.Path.{◌≡◌}
use Prim.Native.Nat.{◌+◌, ◌-◌, ◌*◌}
use lib.ListN.{get_or}
use Rattle.text.proofs.Truths.{yes_of}
use Rattle.text.proofs.Digits.{digit_bounds}
use Rattle.swift_values.proofs.Amounts.{written_none, written_more, written_under}
use Rattle.swift_values.proofs.quick_amounts.leading.Goals as goal

pub loop-i-init : goal.loop-i-init
loop-i-init c = written_none _ _

pub returns-then-not-in_digit : goal.returns-then-not-in_digit
returns-then-not-in_digit c =
    let the-args = c.args in
    let the-loop = c.loop-i in
    (omega arith, written_under the-args.m.now the-args.at the-loop.i the-loop.n (omega arith) (omega arith) the-loop.invariant, the-loop.invariant)

pub overflow_mul-n : goal.overflow_mul-n
overflow_mul-n c =
    let the-args = c.args in
    let the-loop = c.loop-i in
    let the-in-digit = c.in_digit in
    omega (
      arith,
      written_under the-args.m.now the-args.at (the-loop.i + 1) (the-loop.n * 10 + (get_or the-args.m.now (the-args.at + the-loop.i) 0 - 48)) (omega arith) (omega arith)
          (written_more the-args.m.now the-args.at the-loop.i the-loop.n (omega arith) the-loop.invariant (yes_of the-in-digit.ensures c.if-not-in_digit.false)),
    )

pub overflow_sub-n : goal.overflow_sub-n
overflow_sub-n c =
    let the-args = c.args in
    let the-loop = c.loop-i in
    let the-in-digit = c.in_digit in
    let the-if1 = c.if-not-in_digit in
    omega (arith, digit_bounds (get_or the-args.m.now (the-args.at + the-loop.i) 0) (yes_of the-in-digit.ensures the-if1.false))

pub overflow_add-n : goal.overflow_add-n
overflow_add-n c =
    let the-args = c.args in
    let the-loop = c.loop-i in
    let the-in-digit = c.in_digit in
    let the-if1 = c.if-not-in_digit in
    omega (
      arith,
      written_under the-args.m.now the-args.at (the-loop.i + 1) (the-loop.n * 10 + (get_or the-args.m.now (the-args.at + the-loop.i) 0 - 48)) (omega arith) (omega arith)
          (written_more the-args.m.now the-args.at the-loop.i the-loop.n (omega arith) the-loop.invariant (yes_of the-in-digit.ensures the-if1.false)),
    )

pub loop-i-preserved : goal.loop-i-preserved
loop-i-preserved c =
    let the-args = c.args in
    let the-loop = c.loop-i in
    let the-in-digit = c.in_digit in
    let the-if1 = c.if-not-in_digit in
    rw c.from.ensures (written_more the-args.m.now the-args.at the-loop.i the-loop.n (omega arith) the-loop.invariant (yes_of the-in-digit.ensures the-if1.false))

pub returns : goal.returns
returns c =
    let the-args = c.args in
    let the-loop = c.loop-i in
    let z : the-loop.i ≡ 9 = omega arith in
    let w = rw z at the-loop.invariant in
    (omega arith, written_under the-args.m.now the-args.at 9 the-loop.n (omega arith) (omega arith) w, w)
