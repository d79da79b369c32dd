-- `swift_values::quick_amounts::plain_amount` meets its contract.
use Rattle.std.proofs.Common.{rules}
use Rattle.swift_values.proofs.Any.{amount_within}
use Rattle.swift_values.proofs.quick_amounts.plain_amount.Goals as goal

pub returns : goal.returns
returns c = search (rules, amount_within)
