-- `judge::walk` meets its contract. The loop's invariant: what is asked for at the start is what is asked for here.
use mathlib.Core.Path.{◌≡◌}
use Prim.Native.Nat.{◌-◌}
use Rattle.judge.specs.Engine.{walked_in}
use Rattle.judge.proofs.walk.Given as goal

abbrev pub invariant-loop : goal.invariant-loop
invariant-loop l = walked_in (l.i - l.counter) l.v l.m l.at ≡ walked_in l.i l.v l.m l.first
