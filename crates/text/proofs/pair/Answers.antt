-- `text::pair` meets its contract.
use native.Mathlib.Omega.{arith}
use Rattle.text.specs.Quoted.{decimal}
use Rattle.text.proofs.pair.Goals as goal

pub returns : goal.returns
unfolding decimal
returns c = omega (arith, c.unit.ensures.value, c.unit-2.ensures.value)
