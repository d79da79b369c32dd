-- `straight::between::to_bic` meets its contract.
use Rattle.straight.proofs.between.to_bic.Goals as goal

pub returns-in-Creditor : goal.returns-in-Creditor
returns-in-Creditor c = rw c.in-Creditor.is c.by_version.ensures

pub returns-in-Debtor : goal.returns-in-Debtor
returns-in-Debtor c = rw c.in-Debtor.is c.by_version-in-Debtor.ensures
