-- `sums::weigh` meets its contract.
use mathlib.Core.Path.{◌∙◌}
use Rattle.std.proofs.lemmas.Result.{err_from_is_err_and}
use Rattle.records.proofs.Walk.{surveyed_with}
use Rattle.keys.proofs.Whole.{from_survey_with, keyed_refused}
use Rattle.sums.proofs.Lots.{no_lot_lem, lot_with_lem}
use Rattle.sums.proofs.weigh.Goals as goal

pub returns-in_err-s : goal.returns-in_err-s
returns-in_err-s c =
    let a = c.args in
    let p = err_from_is_err_and c.from_residual.result c.from_residual.ensures.1 in
    let e = c.in_err-s.ensures in
    rw (p.1, p.2) (keyed_refused a.index.now a.m.now _ e.0, no_lot_lem a.m.now a.index.now _ e.0, e.1)

pub make_lot-lot-requires : goal.make_lot-lot-requires
make_lot-lot-requires c = surveyed_with c.args.index.now c.args.m.now _ c.in_ok-s.ensures.0

pub returns : goal.returns
returns c =
    let a = c.args in
    let e = c.in_ok-s.ensures in (
      c.of-keyed.ensures ∙ from_survey_with a.index.now a.m.now _ e.0,
      lot_with_lem a.m.now a.index.now _ e.0 _ c.make_lot-lot.ensures,
      e.1,
    )
