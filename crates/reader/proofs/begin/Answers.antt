-- `reader::begin` meets its contract.
use mathlib.Core.Path.{◌∙◌}
use Rattle.reader.proofs.Steps.{begun_other, begun_type}
use Rattle.reader.proofs.begin.Goals as goal

pub returns-in-Optional : goal.returns-in-Optional
returns-in-Optional c =
    let a = c.args in
    c.say_type.ensures ∙ begun_type a.st.at a.st.notes a.occ a.typed c.in-Optional.is c.if-typed.true

pub returns-in-Once : goal.returns-in-Once
returns-in-Once c =
    let a = c.args in
    begun_other a.st.at a.st.notes a.occ a.typed c.in-Optional.is c.if-typed.false
