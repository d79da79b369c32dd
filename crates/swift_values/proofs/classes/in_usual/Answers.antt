-- `swift_values::classes::in_usual` meets its contract.
use native.Mathlib.Omega.{arith}
use Prim.Native.Nat.{ℕ}
use mathlib.Core.Bool.{Bool, ◌&&◌, ◌||◌, not}
use lib.Bits.{bit_or}
use lib.Dec.{leb, eqb}
use Rattle.text.specs.Quoted.{among}
use Rattle.text.specs.Classes.{reference_set}
use Rattle.text.specs.Below.{by_bytes}
use Rattle.swift_values.proofs.classes.in_usual.Goals as goal

abbrev usual : ℕ → Bool
usual b = ((leb 43 b && leb b 58) && not (eqb b 47)) || (leb 97 (bit_or b 32) && leb (bit_or b 32) 122)

abbrev allowed : ℕ → Bool
allowed b = reference_set b && not (eqb b 47)

pub returns : goal.returns
unfolding reference_set among
returns c = by_bytes (λ b. usual b && allowed b) usual tt c.args.b (omega arith)
