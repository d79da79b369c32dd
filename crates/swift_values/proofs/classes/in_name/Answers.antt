-- `swift_values::classes::in_name` meets its contract.
use native.Mathlib.Omega.{arith}
use Prim.Native.Nat.{ℕ}
use mathlib.Core.Bool.{Bool, ◌&&◌, ◌||◌}
use lib.Bits.{bit_or}
use lib.Dec.{leb, eqb}
use Rattle.text.specs.Quoted.{among}
use Rattle.text.specs.Classes.{reference_set, text_set}
use Rattle.text.specs.Below.{by_bytes}
use Rattle.swift_values.proofs.classes.in_name.Goals as goal

abbrev usual : ℕ → Bool
usual b = (leb 43 b && leb b 58) || (leb 97 (bit_or b 32) && leb (bit_or b 32) 122) || eqb b 32

pub returns : goal.returns
unfolding text_set reference_set among
returns c = by_bytes (λ b. usual b && text_set b) usual tt c.args.b (omega arith)
