-- `calendar::is_end` meets its contract.
use mathlib.Core.Path.{◌∙◌, ap}
use Rattle.text.proofs.Truths.{yes_of, no_of}
use Rattle.text.proofs.Scan.{rest_of}
use Rattle.calendar.specs.Pattern.{written}
use Rattle.calendar.specs.Time.{zone_form}
use Rattle.calendar.proofs.Times.{end_short, end_plain, end_after}
use Rattle.calendar.proofs.is_end.Goals as goal
use Rattle.calendar.proofs.is_end.Goals.{else-s-ge4-via-then-s-ge4+else-is_written, else-s-ge4-via-else-s-ge4}

pub returns-then-is_written : goal.returns-then-is_written
unfolding written
returns-then-is_written c =
    let s = c.args.s.now in
    c.is_zone.ensures ∙ ap zone_form (rest_of 4 s) ∙ end_after s (yes_of c.is_written.ensures c.if-is_written.true)

pub returns-else-s-ge4 : goal.returns-else-s-ge4
unfolding written
returns-else-s-ge4 c =
    let s = c.args.s.now in
    elim c.else-s-ge4.branch [
      | else-s-ge4-via-then-s-ge4+else-is_written w ↦ c.is_zone-else-s-ge4.ensures ∙ end_plain s (no_of w.is_written.ensures w.if-is_written.false)
      | else-s-ge4-via-else-s-ge4 w ↦ c.is_zone-else-s-ge4.ensures ∙ end_short s w.if-s-ge4.false
    ]
