-- `swift_values::classes::in_ref` meets its contract.
use native.Mathlib.Omega.{arith}
use mathlib.Core.Bool.{◌&&◌, ◌||◌, not}
use lib.Bits.{bit_or}
use lib.Dec.{leb, eqb}
use Rattle.text.specs.Quoted.{among}
use Rattle.text.specs.Classes.{reference_set}
use Rattle.text.specs.Below.{by_bytes}
use Rattle.swift_values.proofs.classes.in_ref.Goals as goal

pub returns : goal.returns
unfolding reference_set among
returns c = by_bytes (λ b. ((leb 39 b && leb b 58) && not (eqb b 42)) || (leb 97 (bit_or b 32) && leb (bit_or b 32) 122) || eqb b 63) reference_set tt c.args.b (omega arith)
