-- `money::count` meets its contract.
use Rattle.std.proofs.Common.{ap, []}
use Rattle.std.proofs.lemmas.Result.{err_from_is_err_and}
use Rattle.text.specs.Quoted.{decimal}
use Rattle.answers.specs.Given.{worth}
use Rattle.answers.proofs.Rules.{rule_held, rule_failed, past_first}
use Rattle.money.specs.Count.{count_given}
use Rattle.money.proofs.Counts.{counted}
use Rattle.money.proofs.count.Goals as goal

pub returns-in_err-require : goal.returns-in_err-require
unfolding count_given
returns-in_err-require c =
    let p = err_from_is_err_and c.from_residual.result c.from_residual.ensures.1 in
    rw (p.1, p.2) (rule_failed _ _ c.require.ensures c.is_count.ensures c.in_err-require.was [] (worth (decimal c.args.s.now)))

pub number-requires-clause-s_len_bound : goal.number-requires-clause-s_len_bound
number-requires-clause-s_len_bound c = (counted _ (rule_held _ _ c.require.ensures c.is_count.ensures c.in_ok-require.was)).short

pub number-requires-clause-s_value : goal.number-requires-clause-s_value
number-requires-clause-s_value c = (counted _ (rule_held _ _ c.require.ensures c.is_count.ensures c.in_ok-require.was)).digits

pub returns : goal.returns
unfolding count_given
returns c =
    past_first _ 7 [] _ (rule_held _ _ c.require.ensures c.is_count.ensures c.in_ok-require.was) (ap worth c.number.ensures)
