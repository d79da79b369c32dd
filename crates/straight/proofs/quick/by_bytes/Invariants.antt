-- `straight::quick::by_bytes` meets its contract.
use Rattle.std.proofs.Common.{◌<◌}
use Rattle.straight.proofs.Spelled.{Sofar}
use Rattle.straight.proofs.quick.by_bytes.Given as goal

abbrev pub invariant-loop-i : goal.invariant-loop-i
invariant-loop-i l = Sofar l.m l.at l.text l.i l.p × (0 < l.at) × (0 < l.p)
