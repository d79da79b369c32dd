-- `straight::swift_items` meets its contract. The loop's invariant: what is made of the items that come is what is made of those that are left.
use Rattle.std.proofs.Common.{◌<◌, ◌≤◌}
use Rattle.reading.specs.Noted.{on}
use Rattle.notes.specs.Steps.{stated}
use Rattle.straight.specs.Exact.{Onward}
use Rattle.straight.specs.Kept.{Kept}
use Rattle.straight.proofs.swift_items.Given as goal

abbrev pub invariant-loop-left : goal.invariant-loop-left
invariant-loop-left l = Onward l.source.v l.source.m.now l.most (on (stated l.initial.s)) l.initial.places l.left (on (stated l.s)) l.places × (0 < l.left) × (l.left ≤ l.most) × Kept l.source.m.now l.source.v l.before

abbrev pub decreases-loop-left : goal.decreases-loop-left
decreases-loop-left l = l.left
