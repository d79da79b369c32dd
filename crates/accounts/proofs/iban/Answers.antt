-- `accounts::iban` meets its contract.
use Rattle.std.proofs.Common.{arith, [], ◌∷◌}
use Rattle.std.proofs.lemmas.Result.{err_from_is_err_and}
use Rattle.answers.specs.Given.{yes, ◌else◌}
use Rattle.answers.proofs.Rules.{last_rule, rule_held, rule_failed, past_first}
use Rattle.check97.specs.Check.{iban_checked}
use Rattle.accounts.specs.Iban.{iban_form, iban_length, iban_given}
use Rattle.accounts.proofs.Forms.{iban_long}
use Rattle.accounts.proofs.iban.Goals as goal

pub returns-in_err-require : goal.returns-in_err-require
unfolding iban_given
returns-in_err-require c =
    let s = c.args.s.now in
    let p = err_from_is_err_and c.from_residual.result c.from_residual.ensures.1 in
    rw (p.1, p.2) (rule_failed _ _ c.require.ensures c.is_iban.ensures c.in_err-require.was (iban_length s else 19 ∷ iban_checked s else 8 ∷ []) yes)

pub is_long-requires : goal.is_long-requires
is_long-requires c = rule_held _ _ c.require.ensures c.is_iban.ensures c.in_ok-require.was

pub returns-in_err-require-2 : goal.returns-in_err-require-2
unfolding iban_given
returns-in_err-require-2 c =
    let s = c.args.s.now in
    let p = err_from_is_err_and c.from_residual-in_err-require-2.result c.from_residual-in_err-require-2.ensures.1 in
    rw (p.1, p.2)
    (past_first (iban_form s) 7 (iban_length s else 19 ∷ iban_checked s else 8 ∷ []) yes (rule_held _ _ c.require.ensures c.is_iban.ensures c.in_ok-require.was)
    (rule_failed _ _ c.require-2.ensures c.is_long.ensures c.in_err-require-2.was (iban_checked s else 8 ∷ []) yes))

pub is_checked-requires : goal.is_checked-requires
is_checked-requires c = (omega arith, omega (arith, iban_long c.args.s.now (rule_held _ _ c.require.ensures c.is_iban.ensures c.in_ok-require.was)))

pub returns : goal.returns
unfolding iban_given iban_checked
returns c =
    let s = c.args.s.now in
    past_first (iban_form s) 7 (iban_length s else 19 ∷ iban_checked s else 8 ∷ []) yes (rule_held _ _ c.require.ensures c.is_iban.ensures c.in_ok-require.was)
    (past_first (iban_length s) 19 (iban_checked s else 8 ∷ []) yes (rule_held _ _ c.require-2.ensures c.is_long.ensures c.in_ok-require-2.was)
    (last_rule _ _ c.require-3.ensures c.is_checked.ensures))
