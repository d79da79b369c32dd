-- `straight::part::Message::end_tag` meets its contract.
use Rattle.std.proofs.Common.{arith}
use Rattle.notes.specs.Steps.{stated, stepped}
use Rattle.engine.proofs.Steps.{spaces_fit}
use Rattle.straight.proofs.Elements.{skipped_good, end_tag_makes}
use Rattle.straight.proofs.part.Message.end_tag.Goals as goal

pub overflow_add-at : goal.overflow_add-at
overflow_add-at c =
    let a = c.args in
    omega (arith, spaces_fit a.self.m.now a.st.at c.spaces.result c.requires.within c.spaces.ensures)

pub overflow_cast-at : goal.overflow_cast-at
overflow_cast-at c =
    let a = c.args in
    omega (arith, spaces_fit a.self.m.now a.st.at c.spaces.result c.requires.within c.spaces.ensures, c.requires.small)

pub close-requires : goal.close-requires
close-requires c =
    let a = c.args in
    skipped_good a.self.m.now a.st.at a.st.notes c.spaces.result c.requires c.spaces.ensures (stated c.at_place.result) c.at_place.ensures

pub returns : goal.returns
returns c =
    let a = c.args in
    end_tag_makes a.self.m.now a.finish.now a.st.at c.spaces.result a.st.notes c.spaces.ensures (stated c.at_place.result) c.at_place.ensures
    (stepped c.close.result) c.close.ensures.0 c.close.ensures.1
