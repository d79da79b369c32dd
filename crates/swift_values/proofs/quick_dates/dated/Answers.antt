-- `swift_values::quick_dates::dated` meets its contract.
use Rattle.swift_values.proofs.Dates.{dated}
use Rattle.swift_values.proofs.quick_dates.dated.Goals as goal

pub returns : goal.returns
returns c =
    let the-args = c.args in
    let the-digit-pair = c.digit_pair in
    let the-digit-pair2 = c.digit_pair-2 in
    let the-digit-pair3 = c.digit_pair-3 in
    dated the-args.m.now the-args.p the-digit-pair.result the-digit-pair2.result the-digit-pair3.result c.digit_pair-4.result
    the-digit-pair.ensures the-digit-pair2.ensures the-digit-pair3.ensures c.digit_pair-4.ensures
