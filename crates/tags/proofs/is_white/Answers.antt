-- `tags::is_white` meets its contract: tried on all bytes.
use native.Mathlib.Omega.{arith}
use Prim.Native.Nat.{ℕ}
use mathlib.Core.Bool.{Bool, ◌||◌}
use lib.Dec.{eqb}
use Rattle.text.specs.Below.{by_bytes}
use Rattle.tags.specs.Tags.{white}
use Rattle.tags.proofs.is_white.Goals as goal

abbrev one_of_four : ℕ → Bool
one_of_four c = ((eqb c 32 || eqb c 9) || eqb c 13) || eqb c 10

pub returns : goal.returns
unfolding white
returns c = by_bytes one_of_four white tt c.args.c (omega arith)
