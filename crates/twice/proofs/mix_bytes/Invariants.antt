-- `twice::mix_bytes` meets its contract. The loop's invariant: the rest mixed into the sum is all mixed in.
use Rattle.std.proofs.Common.{◌≡◌, drop}
use Rattle.twice.specs.Engine.{mix_bytes}
use Rattle.twice.proofs.mix_bytes.Given as goal

abbrev pub invariant-loop-c : goal.invariant-loop-c
invariant-loop-c l = mix_bytes l.sum (drop l.c-index l.s) ≡ mix_bytes l.h l.s
