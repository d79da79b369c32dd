-- `swift_values::classes::in_business` meets its contract.
use native.Mathlib.Omega.{arith}
use mathlib.Core.Bool.{◌&&◌, ◌||◌}
use lib.Dec.{leb}
use Rattle.text.specs.Quoted.{among}
use Rattle.text.specs.Classes.{letter_or_digit}
use Rattle.text.specs.Below.{by_bytes}
use Rattle.swift_values.proofs.classes.in_business.Goals as goal

pub returns : goal.returns
unfolding letter_or_digit among
returns c = by_bytes (λ b. ((leb 48 b && leb b 57) || (leb 65 b && leb b 90)) || (leb 97 b && leb b 122)) letter_or_digit tt c.args.b (omega arith)
