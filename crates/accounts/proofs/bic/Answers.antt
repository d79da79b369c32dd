-- `accounts::bic` meets its contract.
use Rattle.answers.proofs.Rules.{last_rule}
use Rattle.accounts.specs.Bic.{bic_given}
use Rattle.accounts.proofs.bic.Goals as goal

pub returns : goal.returns
unfolding bic_given
returns c = last_rule _ _ c.require.ensures c.is_bic.ensures
