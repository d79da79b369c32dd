-- `reader::pass` meets its contract.
use mathlib.Core.Path.{◌∙◌}
use Rattle.reader.proofs.Steps.{missed_other, missed_type}
use Rattle.reader.proofs.pass.Goals as goal

pub returns-in-Optional : goal.returns-in-Optional
returns-in-Optional c =
    let a = c.args in
    c.say_type.ensures ∙ missed_type a.st.at a.st.notes a.occ a.typed c.in-Optional.is c.if-typed.true

pub returns-in_default : goal.returns-in_default
returns-in_default c =
    let a = c.args in
    missed_other a.st.at a.st.notes a.occ a.typed c.in-Optional.is c.if-typed.false
