-- `check97::remainder` meets its contract. The loop's invariant: with the characters from here on behind it, the number leaves the same.
use mathlib.Core.Path.{◌≡◌}
use Prim.Native.Nat.{◌%◌}
use lib.ListN.{drop}
use Rattle.text.specs.Quoted.{followed_by}
use Rattle.check97.specs.Check.{spelled}
use Rattle.check97.proofs.remainder.Given as goal

abbrev pub invariant-loop-c : goal.invariant-loop-c
invariant-loop-c l = followed_by l.g (spelled (drop l.c-index l.s)) % 97 ≡ followed_by l.r (spelled l.s) % 97
