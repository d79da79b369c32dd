-- `records::put_cents`: the first i digits of what is left, before those that are written, are all digits.
use mathlib.Core.Path.{◌≡◌}
use Rattle.postings.specs.Record.{digits}
use Rattle.records.specs.Engine.{laid}
use Rattle.records.proofs.Digits.{due}
use Rattle.records.proofs.put_cents.Given as goal

abbrev pub invariant-loop-i : goal.invariant-loop-i
invariant-loop-i l = due 184 l.i l.left l.rec ≡ laid 184 (digits 11 l.cents) l.initial.rec
