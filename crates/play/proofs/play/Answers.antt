-- `play::play` meets its contract.
use Rattle.std.proofs.Common.{rules, ◌≡◌, length, replicate, ◌∙◌}
use Rattle.twice.specs.Twice.{least_index}
use Rattle.play.proofs.Loop.{too_short_lem, too_few, all_played, cleared_by, fresh, not_cleared}
use Rattle.play.proofs.play.Goals as goal

pub returns-then-index-lt-LEAST_INDEX-clause-played :
    goal.returns-then-index-lt-LEAST_INDEX-clause-played
unfolding least_index
returns-then-index-lt-LEAST_INDEX-clause-played c =
    let a = c.args in rw c.at.ensures (too_short_lem a.index.now a.recording.now a.buffer.now a.ends.now a.entries.now a.numbers.now c.if-index-lt-LEAST_INDEX.true)

pub returns-then-index-lt-LEAST_INDEX-clause-index :
    goal.returns-then-index-lt-LEAST_INDEX-clause-index
unfolding least_index
returns-then-index-lt-LEAST_INDEX-clause-index c =
    let a = c.args in not_cleared a.index.now a.recording.now a.buffer.now a.ends.now a.entries.now a.numbers.now c.if-index-lt-LEAST_INDEX.true

pub returns-then-entries-lt-MOST-clause-played :
    goal.returns-then-entries-lt-MOST-clause-played
unfolding least_index
returns-then-entries-lt-MOST-clause-played c =
    let a = c.args in rw c.at-then-entries-lt-MOST.ensures (too_few a.index.now a.recording.now a.buffer.now a.ends.now a.entries.now a.numbers.now c.if-index-lt-LEAST_INDEX.false
    c.if-entries-lt-MOST.true)

pub returns-then-entries-lt-MOST-clause-index :
    goal.returns-then-entries-lt-MOST-clause-index
unfolding least_index
returns-then-entries-lt-MOST-clause-index c =
    let a = c.args in cleared_by a.index.now a.recording.now a.buffer.now a.ends.now a.entries.now a.numbers.now c.if-index-lt-LEAST_INDEX.false _ (c.fill.ensures.after (λ y q. search rules))

pub play_on-told-requires-clause-fresh : goal.play_on-told-requires-clause-fresh
unfolding least_index
play_on-told-requires-clause-fresh c =
    let a = c.args in fresh a.index.now a.recording.now a.buffer.now a.ends.now a.entries.now a.numbers.now c.if-index-lt-LEAST_INDEX.false _ (c.fill.ensures.after (λ y q. search rules))

pub returns-clause-played : goal.returns-clause-played
unfolding least_index
returns-clause-played c =
    let a = c.args in c.play_on-told.ensures.played ∙ all_played a.index.now a.recording.now a.buffer.now a.ends.now a.entries.now a.numbers.now c.if-index-lt-LEAST_INDEX.false c.if-entries-lt-MOST.false

pub returns-clause-index : goal.returns-clause-index
unfolding least_index
returns-clause-index c =
    let a = c.args in c.play_on-told.ensures.index ∙ cleared_by a.index.now a.recording.now a.buffer.now a.ends.now a.entries.now a.numbers.now c.if-index-lt-LEAST_INDEX.false _
    (c.fill.ensures.after (λ y q. search rules))
