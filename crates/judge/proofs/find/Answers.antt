-- `judge::find` meets its contract.
use Rattle.std.proofs.lemmas.Result.{err_from_is_err_and}
use Rattle.judge.proofs.Walks.{found_with_index}
use Rattle.judge.proofs.find.Goals as goal

pub returns-in_err-read : goal.returns-in_err-read
returns-in_err-read c =
    let p = err_from_is_err_and c.from_residual.result c.from_residual.ensures.1 in
    rw (p.1, p.2) (found_with_index c.args.index.now c.args.m.now _ c.in_err-read.ensures.0, c.read.ensures.1)

pub returns : goal.returns
returns c = (found_with_index c.args.index.now c.args.m.now _ c.in_ok-read.ensures.0, c.read.ensures.1)
