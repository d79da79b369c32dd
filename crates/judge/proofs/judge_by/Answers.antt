-- `judge::judge_by` meets its contract.
use Rattle.std.proofs.lemmas.Result.{err_from_is_err_and}
use Rattle.judge.proofs.Walks.{judged_with_index}
use Rattle.judge.proofs.judge_by.Goals as goal

pub returns-in_err-read_by : goal.returns-in_err-read_by
returns-in_err-read_by c =
    let p = err_from_is_err_and c.from_residual.result c.from_residual.ensures.1 in
    rw (p.1, p.2) (judged_with_index c.args.index.now c.args.m.now _ c.in_err-read_by.ensures.0, c.read_by.ensures.1)

pub returns : goal.returns
returns c = (judged_with_index c.args.index.now c.args.m.now _ c.in_ok-read_by.ensures.0, c.read_by.ensures.1)
