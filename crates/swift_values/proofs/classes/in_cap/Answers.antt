-- `swift_values::classes::in_cap` meets its contract.
use native.Mathlib.Omega.{arith}
use mathlib.Core.Bool.{◌&&◌, ◌||◌}
use lib.Dec.{leb}
use Rattle.text.specs.Quoted.{among}
use Rattle.text.specs.Classes.{capital_or_digit}
use Rattle.text.specs.Below.{by_bytes}
use Rattle.swift_values.proofs.classes.in_cap.Goals as goal

pub returns : goal.returns
unfolding capital_or_digit among
returns c = by_bytes (λ b. (leb 48 b && leb b 57) || (leb 65 b && leb b 90)) capital_or_digit tt c.args.b (omega arith)
