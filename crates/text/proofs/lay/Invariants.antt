-- `text::lay` meets its contract. What was laid so far is s; behind it stands what stood there.
use Rattle.std.proofs.Common.{◌≡◌, ◌++◌, take, drop}
use Rattle.text.proofs.lay.Given as goal

abbrev pub invariant-loop-i : goal.invariant-loop-i
invariant-loop-i l = l.to ≡ take l.i l.s ++ drop l.i l.initial.to
