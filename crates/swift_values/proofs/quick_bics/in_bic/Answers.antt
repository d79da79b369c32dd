-- `swift_values::quick_bics::in_bic` meets its contract.
use mathlib.Core.Path.{refl}
use Rattle.swift_values.proofs.quick_bics.in_bic.Goals as goal

pub returns : goal.returns
returns c = rw (c.in_cap.ensures, c.lowest.ensures) refl
