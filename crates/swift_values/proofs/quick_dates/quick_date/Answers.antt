-- `swift_values::quick_dates::quick_date` meets its contract.
use native.Mathlib.Omega.{arith}
use borrow.Author.Tests.{eqb-true}
use mathlib.Core.Bool.{◌&&◌}
use Rattle.swift_values.proofs.Lanes.{and_split}
use Rattle.swift_values.proofs.Dates.{date_stands}
use Rattle.swift_values.proofs.quick_dates.quick_date.Goals as goal

pub returns-then-dated-real_day : goal.returns-then-dated-real_day
returns-then-dated-real_day c =
    let h = c.room.ensures c.if-not-room.false in
    let x = and_split (c.dated.result && c.real_day.result) _ c.if-dated-real_day.true in
    let y = and_split c.dated.result c.real_day.result x.0 in
    date_stands c.args.m.now c.args.at h.0 (omega arith) (c.dated.ensures y.0) (c.real_day.ensures y.1) (eqb-true _ _ x.1)
