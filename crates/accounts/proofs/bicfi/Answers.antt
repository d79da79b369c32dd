-- `accounts::bicfi` meets its contract.
use Rattle.answers.proofs.Rules.{last_rule}
use Rattle.accounts.specs.Bic.{bicfi_given}
use Rattle.accounts.proofs.bicfi.Goals as goal

pub returns : goal.returns
unfolding bicfi_given
returns c = last_rule _ _ c.require.ensures c.is_bicfi.ensures
