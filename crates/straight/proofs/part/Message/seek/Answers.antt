-- `straight::part::Message::seek` meets its contract.
use Rattle.std.proofs.Common.{arith}
use Rattle.straight.proofs.Groups.{sought_at, sought_within, sought_look}
use Rattle.straight.proofs.part.Message.seek.Goals as goal

pub overflow_add-at : goal.overflow_add-at
overflow_add-at c =
    let a = c.args in
    omega (arith, sought_within a.self.m.now a.start.now a.st.at c.spaces.result c.requires.within c.spaces.ensures)

pub slice_bounds-text_at-count : goal.slice_bounds-text_at-count
slice_bounds-text_at-count c =
    let a = c.args in
    omega (arith, sought_within a.self.m.now a.start.now a.st.at c.spaces.result c.requires.within c.spaces.ensures)

pub slice_bounds-text_at-start : goal.slice_bounds-text_at-start
slice_bounds-text_at-start c =
    let a = c.args in
    omega (arith, sought_within a.self.m.now a.start.now a.st.at c.spaces.result c.requires.within c.spaces.ensures)

pub returns : goal.returns
returns c =
    let a = c.args in
    let b = c.spaces in
    let h = c.requires.within in (
      sought_at a.self.m.now a.start.now a.st.at b.result h b.ensures,
      sought_within a.self.m.now a.start.now a.st.at b.result h b.ensures,
      sought_look a.self.m.now a.start.now a.st.at b.result h b.ensures c.text_at-look.result c.text_at-look.ensures,
    )
