-- `play::play_on` meets its contract.
use Rattle.std.proofs.Common.{arith, ◌∙◌}
use Rattle.play.proofs.Loop.{playing_begins, playing_ends, playing_on, playing_stops}
use Rattle.play.proofs.play_on.Goals as goal

pub loop-i-init : goal.loop-i-init
loop-i-init c =
    let a = c.args in
    playing_begins a.recording.now a.buffer.now a.ends.now a.entries.now c.count_records-n.result c.count_records-n.ensures a.index.now a.run.now
    (c.requires.begun a.entries.now) c.requires.sound

pub returns-in-Err-clause-played : goal.returns-in-Err-clause-played
returns-in-Err-clause-played c =
    let a = c.args in
    let l = c.loop-i in
    let s = c.step_on in
    rw c.at.ensures
    (playing_stops a.recording.now a.buffer.now a.ends.now a.entries.now c.count_records-n.result a.index.now l.index l.entries l.run l.i l.invariant c.loop-i-test.true
    c.line_at-said.result c.line_at-said.ensures s.new.entries c.in-Err.refused c.in-Err.ensures.step c.in-Err.ensures.kept)

pub loop-i-preserved : goal.loop-i-preserved
loop-i-preserved c =
    let a = c.args in
    let l = c.loop-i in
    let s = c.step_on in
    playing_on a.recording.now a.buffer.now a.ends.now a.entries.now c.count_records-n.result a.index.now l.index l.entries l.run l.i l.invariant c.loop-i-test.true
    c.line_at-said.result c.line_at-said.ensures s.new.entries c.in-Ok.next c.in-Ok.ensures.step c.in-Ok.ensures.sound s.new.index c.in-Ok.ensures.index

pub returns-clause-played : goal.returns-clause-played
returns-clause-played c =
    let a = c.args in
    let l = c.loop-i in
    c.finish.ensures l.entries ∙ playing_ends a.recording.now a.buffer.now a.ends.now a.entries.now c.count_records-n.result a.index.now l.index l.entries l.run l.i l.invariant (omega arith)
