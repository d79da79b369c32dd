-- `vectors::read_full` meets its contract: the count stays within the area, whose length stays, and what is left of it falls.
use Rattle.std.proofs.Common.{length, ◌-◌, ◌≡◌, ◌≤◌}
use Rattle.vectors.proofs.read_full.Given as goal

abbrev pub invariant-loop-count : goal.invariant-loop-count
invariant-loop-count g l = (length l.area ≡ length l.initial.area) × (l.count ≤ length l.area)

abbrev pub decreases-loop-count : goal.decreases-loop-count
decreases-loop-count g l = length l.area - l.count
