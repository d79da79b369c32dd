-- `swift_values::quick_codes::plain_code` meets its contract.
use Rattle.std.proofs.Common.{rules}
use Rattle.swift_values.proofs.Any.{code_within}
use Rattle.swift_values.proofs.quick_codes.plain_code.Goals as goal

pub returns : goal.returns
returns c = search (rules, code_within)
