-- `swift_values::eights::digit_pair` meets its contract.
use Rattle.swift_values.proofs.Dates.{two_digits_lem}
use Rattle.swift_values.proofs.eights.digit_pair.Goals as goal

pub returns : goal.returns
returns c =
    let the-args = c.args in
    let the-in-digit = c.in_digit in
    two_digits_lem the-args.m.now the-args.p the-in-digit.result c.in_digit-2.result the-in-digit.ensures c.in_digit-2.ensures
