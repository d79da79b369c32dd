-- `tags::upto` meets its contract. The loop's invariant: `at` bytes are passed, and all are of the value. The measure is how many are left.
use mathlib.Core.Path.{◌≡◌}
use Prim.Native.Nat.{◌+◌}
use lib.ListN.{length}
use Rattle.text.specs.Truth.{lead}
use Rattle.tags.specs.Values.{in_value}
use Rattle.tags.proofs.upto.Given as goal

abbrev pub invariant-loop-block : goal.invariant-loop-block
invariant-loop-block l = (l.at + length l.rest ≡ length l.s) × (l.at + lead in_value l.rest ≡ lead in_value l.s)

abbrev pub decreases-loop-block : goal.decreases-loop-block
decreases-loop-block l = length l.rest
