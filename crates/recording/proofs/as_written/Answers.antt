-- `recording::as_written` meets its contract.
use native.Mathlib.Omega.{arith}
use mathlib.Core.Path.{sym}
use lib.Seq.{length-take-le}
use Rattle.recording.specs.Instant.{as_written}
use Rattle.recording.proofs.Stamps.{stamp_date}
use Rattle.recording.proofs.as_written.Goals as goal

pub slice_bounds-days_before-end : goal.slice_bounds-days_before-end
slice_bounds-days_before-end c = sym (length-take-le 10 c.args.t.now (omega arith))

pub days_before-requires : goal.days_before-requires
days_before-requires c = stamp_date _ c.requires.1

pub returns : goal.returns
unfolding as_written
returns c = record { value = rw (c.days_before.ensures.value, c.seconds_before.ensures.value); lower_bound = omega arith }
