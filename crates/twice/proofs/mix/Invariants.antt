-- `twice::mix` meets its contract. The loop's invariant: the rest mixed into the sum is all mixed in.
use Rattle.std.proofs.Common.{◌≡◌, ◌*◌, drop}
use Rattle.twice.specs.Engine.{mix_from}
use Rattle.twice.proofs.mix.Given as goal

abbrev pub invariant-loop-four : goal.invariant-loop-four
invariant-loop-four l = mix_from l.h (drop (4 * l.four-index) l.v) ≡ mix_from 0 l.v
