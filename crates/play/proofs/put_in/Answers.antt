-- `play::put_in` meets its contract.
use Rattle.play.proofs.Runs.{on_err, out_kept, room_in, in_step, in_sound}
use Rattle.play.proofs.put_in.Goals as goal

pub returns-in_err-act-clause-kept : goal.returns-in_err-act-clause-kept
returns-in_err-act-clause-kept c =
    on_err c.from_residual.result (out_kept c.args.entries.now c.args.run c.act.new.entries c.act.new.numbers c.act.result c.requires.sound c.args.bulk c.act.ensures
    c.in_err-act.field-0.0 c.in_err-act.was)

pub bounds-lots-opened : goal.bounds-lots-opened
bounds-lots-opened c =
    room_in c.args.entries.now c.args.run c.act.new.entries c.act.new.numbers c.act.result c.requires.sound c.args.bulk c.act.ensures c.in_ok-act.field-0 c.in_ok-act.was

pub returns-clause-step : goal.returns-clause-step
returns-clause-step c =
    in_step c.args.entries.now c.args.run c.act.new.entries c.act.new.numbers c.act.result c.requires.sound c.args.bulk c.act.ensures c.in_ok-act.field-0
    c.in_ok-act.was c.args.lot _ _

pub returns-clause-sound : goal.returns-clause-sound
returns-clause-sound c =
    in_sound c.args.entries.now c.args.run c.act.new.entries c.act.new.numbers c.act.result c.requires.sound c.args.bulk c.act.ensures c.in_ok-act.field-0
    c.in_ok-act.was c.args.lot _ _ c.requires.light
