-- `plain::amount_length` meets its contract.
use native.Mathlib.Omega.{arith}
use mathlib.Core.Path.{sym}
use Rattle.money.proofs.Plain.{plain_short}
use Rattle.plain.proofs.Values.{amount_long}
use Rattle.plain.proofs.amount_length.Goals as goal

pub overflow_add-result : goal.overflow_add-result
overflow_add-result c = omega (arith, plain_short c.args.v.now, amount_long _ _ _ c.parts_of.ensures)

pub returns : goal.returns
returns c = sym (amount_long _ _ _ c.parts_of.ensures)
