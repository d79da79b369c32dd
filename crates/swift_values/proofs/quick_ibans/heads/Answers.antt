-- `swift_values::quick_ibans::heads` meets its contract.
use Rattle.swift_values.proofs.Ibans.{headed}
use Rattle.swift_values.proofs.quick_ibans.heads.Goals as goal

pub returns : goal.returns
returns c =
    let the-args = c.args in
    let the-in-capital = c.in_capital in
    let the-in-capital2 = c.in_capital-2 in
    let the-in-digit = c.in_digit in
    let a = the-args in
    headed a.m.now a.p the-in-capital.result the-in-capital2.result the-in-digit.result c.in_digit-2.result the-in-capital.ensures the-in-capital2.ensures the-in-digit.ensures c.in_digit-2.ensures
