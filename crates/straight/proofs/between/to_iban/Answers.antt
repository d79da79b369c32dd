-- `straight::between::to_iban` meets its contract.
use Rattle.std.proofs.Common.{refl, arith}
use Rattle.straight.proofs.between.to_iban.Goals as goal

pub returns-in-Creditor : goal.returns-in-Creditor
returns-in-Creditor c = rw c.in-Creditor.is (refl, omega arith)

pub returns-in-Debtor : goal.returns-in-Debtor
returns-in-Debtor c = rw c.in-Debtor.is (refl, omega arith)
