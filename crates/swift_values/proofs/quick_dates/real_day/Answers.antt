-- `swift_values::quick_dates::real_day` meets its contract.
use Rattle.swift_values.proofs.Dates.{real_day_lem}
use Rattle.swift_values.proofs.quick_dates.real_day.Goals as goal

pub returns : goal.returns
returns c =
    let the-args = c.args in
    let the-pair-at = c.pair_at in
    let the-pair-at2 = c.pair_at-2 in
    let the-pair-at3 = c.pair_at-month in
    let the-pair-at4 = c.pair_at-day in
    real_day_lem the-args.m.now the-args.p the-pair-at.result the-pair-at2.result the-pair-at3.result the-pair-at4.result c.days_for.result
    the-pair-at.ensures.0 the-pair-at2.ensures.0 the-pair-at3.ensures.0 the-pair-at4.ensures.0 c.days_for.ensures
