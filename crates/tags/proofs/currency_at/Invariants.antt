-- `tags::currency_at` meets its contract. The loop's invariant: how the tests from `i` on lie from `i` on is how all lie.
use mathlib.Core.Path.{◌≡◌}
use Prim.Native.Nat.{◌≤◌}
use lib.ListN.{drop}
use Rattle.tags.specs.Tags.{look, currency}
use Rattle.tags.proofs.currency_at.Given as goal

abbrev pub invariant-loop-i : goal.invariant-loop-i
invariant-loop-i l = (l.i ≤ 5) × (look (drop l.i currency) (drop l.i l.s) ≡ look currency l.s)
