-- `swift_values::quick_references::end_to_end` meets its contract.
use Rattle.std.proofs.Common.{rules}
use Rattle.swift_values.proofs.Values.{as_end_to_end}
use Rattle.swift_values.proofs.quick_references.end_to_end.Goals as goal

pub returns : goal.returns
returns c = search (rules, as_end_to_end)
