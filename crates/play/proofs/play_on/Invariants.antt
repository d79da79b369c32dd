-- `play::play_on` meets its contract.
use Rattle.play.proofs.Loop.{Playing}
use Rattle.play.proofs.play_on.Given as goal

abbrev pub invariant-loop-i : goal.invariant-loop-i
invariant-loop-i l = Playing l.recording l.buffer l.ends l.initial.entries l.n l.initial.index l.index l.entries l.run l.i
