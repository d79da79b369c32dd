-- `play::line_at` meets its contract.
use Rattle.std.proofs.Common.{ap, ◌∙◌}
use Rattle.recording.specs.Record.{line_of}
use Rattle.play.proofs.Records.{record_is}
use Rattle.play.proofs.line_at.Goals as goal

pub returns : goal.returns
returns c = c.read_line.ensures ∙ ap line_of (record_is c.args.recording.now c.args.i c.min.result c.min.ensures)
