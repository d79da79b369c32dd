-- `twice::plainly` meets its contract. The outer loop's invariant: what the search gives from item i on is what it gives at all. The inner one's: whether the value
-- stands among those from j on to i is whether it stands before item i. The measures are what is left of the lists.
use Rattle.std.proofs.Common.{◌≡◌, ◌-◌, ◌≤◌, length, take, drop}
use Rattle.twice.specs.Twice.{stands_among, second_from, second}
use Rattle.std.specs.Prelude.{None}
use Rattle.twice.proofs.plainly.Given as goal

abbrev pub invariant-loop-j : goal.invariant-loop-j
invariant-loop-j l = (l.j ≤ l.i) × (l.found ≡ None) × (stands_among l.m l.v (drop l.j (take l.i l.places)) ≡ stands_among l.m l.v (take l.i l.places))

abbrev pub decreases-loop-j : goal.decreases-loop-j
decreases-loop-j l = l.i - l.j

abbrev pub invariant-search : goal.invariant-search
invariant-search l = (l.i ≤ length l.places) × (l.found ≡ None) × (second_from l.m (take l.i l.places) (drop l.i l.places) ≡ second l.m l.places)

abbrev pub decreases-search : goal.decreases-search
decreases-search l = length l.places - l.i
