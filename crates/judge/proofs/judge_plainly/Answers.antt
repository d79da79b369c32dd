-- `judge::judge_plainly` meets its contract.
use Rattle.std.proofs.lemmas.Result.{err_from_is_err_and}
use Rattle.judge.proofs.Walks.{verdict_surveyed}
use Rattle.judge.proofs.judge_plainly.Goals as goal

pub returns-in_err-read_plainly : goal.returns-in_err-read_plainly
returns-in_err-read_plainly c =
    let p = err_from_is_err_and c.from_residual.result c.from_residual.ensures.1 in
    rw (p.1, p.2) (verdict_surveyed c.args.m.now _ c.in_err-read_plainly.ensures)

pub returns : goal.returns
returns c = verdict_surveyed c.args.m.now _ c.in_ok-read_plainly.ensures
