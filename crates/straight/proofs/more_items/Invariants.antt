-- `straight::more_items` meets its contract.
use Rattle.std.proofs.Common.{length}
use Rattle.reading.specs.Noted.{on}
use Rattle.notes.specs.Steps.{stated}
use Rattle.straight.specs.Exact.{Onward}
use Rattle.straight.specs.Kept.{Kept}
use Rattle.straight.proofs.more_items.Given as goal

abbrev pub invariant-loop-left : goal.invariant-loop-left
invariant-loop-left l = Onward l.source.v l.source.m.now (length l.source.m.now) (on (stated l.initial.st)) l.initial.places l.left (on (stated l.st)) l.places × Kept l.source.m.now l.source.v l.before

abbrev pub decreases-loop-left : goal.decreases-loop-left
decreases-loop-left l = l.left
