-- `judge::read_through` meets its contract.
use mathlib.Core.Path.{refl}
use Rattle.std.proofs.lemmas.Result.{err_from_is_err_and}
use Rattle.judge.proofs.Begins.{through_from, through_faulty, filed_from, filed_faulty}
use Rattle.judge.proofs.read_through.Goals as goal

pub returns : goal.returns
returns c =
    let m = c.args.m.now in
    let e = c.in_ok-o.ensures in (
      through_from m c.requires _ e.0 e.1 _ _ refl _ c.message.ensures.0,
      c.message.ensures.1,
      filed_from m c.requires _ e.0 e.1 _ _ refl c.args.places.now _ c.message.ensures.2,
    )

pub returns-in_err-o : goal.returns-in_err-o
returns-in_err-o c =
    let m = c.args.m.now in
    let e = c.in_err-o.ensures in
    let p = err_from_is_err_and c.from_residual.result c.from_residual.ensures.1 in
    let y = through_faulty m c.requires _ e.0 e.1 _ _ refl _ refl in
    rw (p.1, p.2) (y.0, y.1, filed_faulty m c.requires _ e.0 e.1 _ _ refl c.args.places.now)
