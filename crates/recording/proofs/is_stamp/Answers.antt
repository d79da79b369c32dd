-- `recording::is_stamp` meets its contract. A time of 25 bytes has an offset and no fraction.
use mathlib.Core.Path.{◌∙◌, ap}
use Rattle.recording.specs.Record.{taken}
use Rattle.recording.proofs.Stamps.{stamp_time}
use Rattle.recording.proofs.Taken.{taken_yes}
use Rattle.recording.proofs.is_stamp.Goals as goal

pub returns : goal.returns
returns c =
    c.is_ok.ensures.value ∙ (taken_yes c.time.result ∙ (ap taken c.time.ensures ∙ stamp_time c.args.t.now c.requires))
