-- `play::enter_next` meets its contract.
use Rattle.std.proofs.Common.{◌≡◌, rules, arith, ◌∙◌}
use Rattle.answers.specs.Refusals.{refusal_number}
use Rattle.recording.specs.Record.{line_as}
use Rattle.std.proofs.Common.{Some}
use Rattle.play.specs.Play.{refuses}
use Rattle.play.specs.Code.{run_as, stepped}
use Rattle.play.proofs.Messages.{in_ends}
use Rattle.play.proofs.Enters.{unfit}
use Rattle.play.proofs.Steps.{cleared_same, keyed_same, lot_same, lot_light, next_lies, taken_in}
use Rattle.play.proofs.enter_next.Goals as goal

pub returns-in_err-weighed-clause-step : goal.returns-in_err-weighed-clause-step
returns-in_err-weighed-clause-step c =
    let a = c.args in
    let r = c.in_err-weighed.field-0.0 in
    let m = c.in-Some.message.now in
    let z : stepped a.entries.now c.from_residual.result ≡ refuses (refusal_number r.why) = search rules in
    let is = keyed_same a.index.now c.requires.fresh m _ c.in_err-weighed.ensures.0 in
    z ∙ next_lies a.buffer.now a.ends.now (line_as (Some a.line)) (run_as a.entries.now a.run) m c.in-Some.ensures _ (unfit a.line a.run a.entries.now m r is)

pub returns-in_err-weighed-clause-index : goal.returns-in_err-weighed-clause-index
returns-in_err-weighed-clause-index c = c.weigh.ensures.2 ∙ cleared_same c.args.index.now c.requires.fresh

pub enter_as-requires-clause-light : goal.enter_as-requires-clause-light
enter_as-requires-clause-light c =
    lot_light c.in-Some.message.now _ (lot_same c.args.index.now c.requires.fresh c.in-Some.message.now _ c.in_ok-weighed.ensures.1)

pub enter_as-requires-clause-fits : goal.enter_as-requires-clause-fits
enter_as-requires-clause-fits c =
    let a = c.args in
    let h = in_ends a.ends.now a.run.taken a.buffer.now (taken_in a.buffer.now a.ends.now (line_as (Some a.line)) (run_as a.entries.now a.run) c.in-Some.message.now c.in-Some.ensures) in
    omega (arith, h)

pub returns-clause-step : goal.returns-clause-step
returns-clause-step c =
    let a = c.args in
    let m = c.in-Some.message.now in
    let e = keyed_same a.index.now c.requires.fresh m _ c.in_ok-weighed.ensures.0 in
    let f = lot_same a.index.now c.requires.fresh m _ c.in_ok-weighed.ensures.1 in
    next_lies a.buffer.now a.ends.now (line_as (Some a.line)) (run_as a.entries.now a.run) m c.in-Some.ensures _ (c.enter_as.ensures.step m e f)

pub returns-clause-index : goal.returns-clause-index
returns-clause-index c = c.weigh.ensures.2 ∙ cleared_same c.args.index.now c.requires.fresh
