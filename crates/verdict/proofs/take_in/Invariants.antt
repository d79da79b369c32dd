-- `verdict::take_in` meets its contract: what was taken in stands in front in the area, whose length stays, and what is left of it falls.
use Rattle.std.proofs.Common.{length, take, ◌-◌, ◌≡◌, ◌≤◌}
use Rattle.std.specs.Io.KnownBytes.{Consumes}
use Rattle.verdict.proofs.take_in.Given as goal

abbrev pub invariant-loop-count : goal.invariant-loop-count
invariant-loop-count g l = (length l.area ≡ length l.initial.area) × (l.count ≤ length l.area)
    × Consumes (g.R.Read.remaining l.initial.input) (g.R.Read.remaining l.input) (take l.count l.area)

abbrev pub decreases-loop-count : goal.decreases-loop-count
decreases-loop-count g l = length l.area - l.count
