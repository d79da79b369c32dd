-- `play::take_out` meets its contract.
use Rattle.std.proofs.Common.{arith, sym, ◌∙◌}
use Rattle.play.proofs.Runs.{on_err, stay_kept, no_none, below, off_step, off_sound}
use Rattle.play.proofs.take_out.Goals as goal

pub returns-in_err-act-clause-kept : goal.returns-in_err-act-clause-kept
returns-in_err-act-clause-kept c =
    on_err c.from_residual.result (stay_kept c.args.entries.now c.args.run c.act.new.entries c.act.new.numbers c.act.result c.requires.sound c.args.key c.act.ensures
    c.in_err-act.field-0.0 c.in_err-act.was)

pub overflow_add-at : goal.overflow_add-at
overflow_add-at c = let h = below c.args.entries.now c.args.run c.act.new.entries c.act.new.numbers c.act.result c.requires.sound c.args.key c.act.ensures
    c.in_ok-act.field-0 c.in_ok-act.was c.in-Some.at (sym c.place_of-place.ensures ∙ c.in-Some.is) in omega (arith, h, c.requires.sound.few)

pub copy_within-requires-clause-start_le_end : goal.copy_within-requires-clause-start_le_end
copy_within-requires-clause-start_le_end c = let h = below c.args.entries.now c.args.run c.act.new.entries c.act.new.numbers c.act.result c.requires.sound c.args.key
    c.act.ensures c.in_ok-act.field-0 c.in_ok-act.was c.in-Some.at (sym c.place_of-place.ensures ∙ c.in-Some.is) in omega (arith, h)

pub copy_within-requires-clause-dest_in_bounds : goal.copy_within-requires-clause-dest_in_bounds
copy_within-requires-clause-dest_in_bounds c = let h = below c.args.entries.now c.args.run c.act.new.entries c.act.new.numbers c.act.result c.requires.sound
    c.args.key c.act.ensures c.in_ok-act.field-0 c.in_ok-act.was c.in-Some.at (sym c.place_of-place.ensures ∙ c.in-Some.is) in omega (arith, h, c.requires.sound.few)

pub returns-in-Some-clause-step : goal.returns-in-Some-clause-step
returns-in-Some-clause-step c = off_step c.args.entries.now c.args.run c.act.new.entries c.act.new.numbers c.act.result c.requires.sound c.args.key c.act.ensures
    c.in_ok-act.field-0 c.in_ok-act.was c.in-Some.at (sym c.place_of-place.ensures ∙ c.in-Some.is) _ _ _ c.copy_within.ensures.after

pub returns-in-Some-clause-sound : goal.returns-in-Some-clause-sound
returns-in-Some-clause-sound c = off_sound c.args.entries.now c.args.run c.act.new.entries c.act.new.numbers c.act.result c.requires.sound c.args.key c.act.ensures
    c.in_ok-act.field-0 c.in_ok-act.was c.in-Some.at (sym c.place_of-place.ensures ∙ c.in-Some.is) _ _ _ c.copy_within.ensures.after c.copy_within.ensures.len

pub returns-in_default-clause-step : goal.returns-in_default-clause-step
returns-in_default-clause-step c =
    absurd (no_none c.args.entries.now c.args.run c.act.new.entries c.act.new.numbers c.act.result c.requires.sound c.args.key c.act.ensures c.in_ok-act.field-0
    c.in_ok-act.was (sym c.place_of-place.ensures ∙ c.in_default.is))

pub returns-in_default-clause-sound : goal.returns-in_default-clause-sound
returns-in_default-clause-sound c =
    absurd (no_none c.args.entries.now c.args.run c.act.new.entries c.act.new.numbers c.act.result c.requires.sound c.args.key c.act.ensures c.in_ok-act.field-0
    c.in_ok-act.was (sym c.place_of-place.ensures ∙ c.in_default.is))
