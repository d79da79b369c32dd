-- `money::fraction` meets its contract.
use Rattle.std.proofs.Common.{length, arith}
use mathlib.Core.Logic.{◌≢◌}
use Rattle.money.proofs.Fractions.{nothing_worth, behind_point, tenths, hundredths}
use Rattle.money.proofs.fraction.Goals as goal

pub returns-then-is_empty : goal.returns-then-is_empty
returns-then-is_empty c =
    let h = nothing_worth c.args.s.now (grind arith) in record { value = h.0; upper_bound = h.1 }

pub number-f-requires : goal.number-f-requires
number-f-requires c =
    let ne : length c.args.s.now ≢ 0 = grind arith in
    let h = behind_point c.args.s.now c.requires ne in record { s_len_bound = h.0; s_value = h.1 }

pub overflow_mul-result : goal.overflow_mul-result
overflow_mul-result c =
    let ne : length c.args.s.now ≢ 0 = grind arith in
    omega (arith, tenths c.args.s.now c.requires ne _ c.number-f.ensures c.if-s-eq2.true)

pub returns-then-s-eq2 : goal.returns-then-s-eq2
returns-then-s-eq2 c =
    let ne : length c.args.s.now ≢ 0 = grind arith in
    let h = tenths c.args.s.now c.requires ne _ c.number-f.ensures c.if-s-eq2.true in record { value = h.0; upper_bound = h.1 }

pub returns-else-s-eq2 : goal.returns-else-s-eq2
returns-else-s-eq2 c =
    let ne : length c.args.s.now ≢ 0 = grind arith in
    let h = hundredths c.args.s.now c.requires ne _ c.number-f.ensures c.if-s-eq2.false in record { value = h.0; upper_bound = h.1 }
