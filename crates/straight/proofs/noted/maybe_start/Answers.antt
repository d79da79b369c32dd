-- `straight::noted::maybe_start` meets its contract.
use Rattle.std.proofs.Common.{◌∙◌, arith}
use Rattle.straight.proofs.Starts.{maybe_none, maybe_some}
use Rattle.straight.proofs.noted.maybe_start.Goals as goal

pub returns-then-p-eq0 : goal.returns-then-p-eq0
returns-then-p-eq0 c = maybe_none c.args.f c.args.p c.args.starts.now (omega arith)

pub returns : goal.returns
returns c = c.start.ensures ∙ maybe_some c.args.f c.args.p c.args.starts.now (omega arith)
