-- `accounts::creditor_id` meets its contract.
use Rattle.std.proofs.Common.{arith, sym, [], ◌∷◌, ◌∙◌}
use Rattle.std.proofs.lemmas.Result.{err_from_is_err_and}
use Rattle.answers.specs.Given.{yes, ◌else◌}
use Rattle.answers.proofs.Rules.{last_rule, rule_held, rule_failed, past_first}
use Rattle.check97.specs.Check.{identifier_checked}
use Rattle.accounts.specs.Identifier.{identifier_form, identifier_given}
use Rattle.accounts.proofs.Forms.{identifier_long, identifier_turned}
use Rattle.accounts.proofs.creditor_id.Goals as goal

pub returns-in_err-require : goal.returns-in_err-require
unfolding identifier_given
returns-in_err-require c =
    let s = c.args.s.now in
    let p = err_from_is_err_and c.from_residual.result c.from_residual.ensures.1 in
    rw (p.1, p.2) (rule_failed _ _ c.require.ensures c.is_identifier.ensures c.in_err-require.was (identifier_checked s else 8 ∷ []) yes)

pub is_checked-requires : goal.is_checked-requires
is_checked-requires c = (omega arith, omega (arith, identifier_long c.args.s.now (rule_held _ _ c.require.ensures c.is_identifier.ensures c.in_ok-require.was)))

pub returns : goal.returns
unfolding identifier_given
returns c =
    let s = c.args.s.now in
    let form = rule_held _ _ c.require.ensures c.is_identifier.ensures c.in_ok-require.was in
    past_first (identifier_form s) 7 (identifier_checked s else 8 ∷ []) yes form
    (last_rule _ _ c.require-2.ensures (c.is_checked.ensures ∙ sym (identifier_turned s form)))
