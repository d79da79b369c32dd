-- `swift_values::classes::in_capital` meets its contract.
use native.Mathlib.Omega.{arith}
use mathlib.Core.Bool.{◌&&◌}
use lib.Dec.{leb}
use Rattle.text.specs.Quoted.{among}
use Rattle.text.specs.Classes.{capital}
use Rattle.text.specs.Below.{by_bytes}
use Rattle.swift_values.proofs.classes.in_capital.Goals as goal

pub returns : goal.returns
unfolding capital among
returns c = by_bytes (λ b. leb 65 b && leb b 90) capital tt c.args.b (omega arith)
