-- `verdict::run` meets its contract: the line is that of all that the reader held.
use Rattle.std.proofs.Common.{rules, take}
use Rattle.verdict.specs.Line.{answered}
use Rattle.verdict.proofs.Answered.{came, of_taken, of_whole}
use Rattle.verdict.proofs.run.Goals as goal

pub returns : goal.returns
returns g c =
    let t = c.take_in in
    let n = c.in_ok-count.count in
    let held = g.R.Read.remaining c.args.input.now in
    let left = g.R.Read.remaining t.new.input in
    let k = came c.map_err.result _ t.result n c.map_err.ensures.cases c.map_err.ensures.variant c.in_ok-count.was in
    let told = of_taken held left n t.new.area (search rules) (k _ t.ensures.in_bounds) (k _ t.ensures.bytes) (k _ t.ensures.end) in
    of_whole c.map_err-2.result _ c.answer.result c.map_err-2.ensures.cases c.map_err-2.ensures.variant held _ _ (answered (take n t.new.area)) told c.answer.ensures
