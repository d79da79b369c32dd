-- `notes::State::say_type` meets its contract.
use mathlib.Core.Path.{◌∙◌, ap}
use Rattle.reading.specs.Noted.{on}
use Rattle.notes.proofs.Notings.{first_type, same_type, other_type}
use Rattle.notes.proofs.State.say_type.Goals as goal

pub returns-in-None : goal.returns-in-None
returns-in-None c =
    let a = c.args in
    ap on c.with_type.ensures ∙ first_type a.there a.self.at a.self.notes c.in-None.is

pub returns-then-first-there : goal.returns-then-first-there
returns-then-first-there c =
    let a = c.args in
    rw c.at.ensures (same_type a.there a.self.at a.self.notes c.in-Some.first c.in-Some.is c.if-first-there.true _ c.type_refusal.ensures)

pub returns-else-first-there : goal.returns-else-first-there
returns-else-first-there c =
    let a = c.args in
    other_type a.there a.self.at a.self.notes c.in-Some.first c.in-Some.is c.if-first-there.false
