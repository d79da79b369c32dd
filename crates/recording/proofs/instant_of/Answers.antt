-- `recording::instant_of` meets its contract.
use mathlib.Core.Path.{◌∙◌, ap}
use Rattle.text.proofs.Scan.{rest_of}
use Rattle.calendar.specs.Time.{offset_form}
use Rattle.recording.proofs.Stamps.{stamp_offset, ahead, behind}
use Rattle.recording.proofs.instant_of.Goals as goal

pub offset_seconds-o-requires : goal.offset_seconds-o-requires
offset_seconds-o-requires c =
    ap offset_form (rest_of 19 c.args.t.now) ∙ stamp_offset _ c.requires.1

pub returns-then-t-eq43 : goal.returns-then-t-eq43
returns-then-t-eq43 c = ahead _ _ _ c.as_written-w.ensures.value c.offset_seconds-o.ensures.value c.if-t-eq43.true

pub returns : goal.returns
returns c = behind _ _ _ c.as_written-w.ensures.value c.offset_seconds-o.ensures.value c.if-t-eq43.false
