-- `swift_values::quick_ibans::ranged` meets its contract.
use Rattle.swift_values.proofs.Ibans.{ranges}
use Rattle.swift_values.proofs.quick_ibans.ranged.Goals as goal

pub returns : goal.returns
returns c = ranges c.pair-n.result _ c.pair-n.ensures
