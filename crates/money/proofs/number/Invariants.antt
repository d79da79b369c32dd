-- `money::number` meets its contract. The loop's invariant: n with the bytes from here on behind it is the number.
use mathlib.Core.Path.{◌≡◌}
use mathlib.Core.Bool.{true}
use lib.ListN.{drop}
use Rattle.text.specs.Truth.{every}
use Rattle.text.specs.Quoted.{followed_by, decimal}
use Rattle.text.specs.Classes.{digit}
use Rattle.money.proofs.number.Given as goal

abbrev pub invariant-loop-c : goal.invariant-loop-c
invariant-loop-c l = (followed_by l.n (drop l.c-index l.s) ≡ decimal l.s) × (every digit (drop l.c-index l.s) ≡ true)
