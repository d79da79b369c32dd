-- `records::fill` meets its contract. The loop's invariant: the records of the items that are done stand in the area, and the others stand in the message from here on.
use mathlib.Core.Path.{◌≡◌}
use Prim.Native.Nat.{◌-◌, ◌*◌}
use lib.ListN.{length}
use Rattle.engine.specs.Several.{row_length}
use Rattle.records.proofs.Areas.{Filling}
use Rattle.records.proofs.fill.Given as goal

abbrev pub invariant-loop-i : goal.invariant-loop-i
invariant-loop-i l = Filling l.m l.count l.initial.area l.i l.at l.area × (length l.rows ≡ row_length * 128)

abbrev pub decreases-loop-i : goal.decreases-loop-i
decreases-loop-i l = l.count - l.i
