-- `recording::months_days` meets its contract. The first two months are summed, the others counted from March on.
use native.Mathlib.Omega.{arith}
use Rattle.recording.proofs.Days.{months_first, months_later, months_below, year_more}
use Rattle.recording.proofs.months_days.Goals as goal

pub returns-then-m-lt3 : goal.returns-then-m-lt3
returns-then-m-lt3 c =
    let a = c.args in record { value = months_first a.y a.m (omega arith) c.if-m-lt3.true; upper_bound = omega arith }

pub overflow_sub-more : goal.overflow_sub-more
overflow_sub-more c = omega (arith, year_more c.args.y (omega arith))

pub overflow_sub-more-2 : goal.overflow_sub-more-2
overflow_sub-more-2 c = omega (arith, year_more c.args.y (omega arith))

pub returns : goal.returns
returns c =
    let a = c.args in
    let e = months_later a.y a.m (omega arith) (omega arith) (omega arith) in
    let b = months_below a.y a.m (omega arith) (omega arith) in
    let k = year_more a.y (omega arith) in
    record { value = omega arith; upper_bound = omega arith }
