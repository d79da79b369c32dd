-- `swift_values::classes::in_digit` meets its contract.
use native.Mathlib.Omega.{arith}
use mathlib.Core.Bool.{◌&&◌}
use lib.Dec.{leb}
use Rattle.text.specs.Quoted.{among}
use Rattle.text.specs.Classes.{digit}
use Rattle.text.specs.Below.{by_bytes}
use Rattle.swift_values.proofs.classes.in_digit.Goals as goal

pub returns : goal.returns
unfolding digit among
returns c = by_bytes (λ b. leb 48 b && leb b 57) digit tt c.args.b (omega arith)
