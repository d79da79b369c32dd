-- `straight::part::Message::may_one` meets its contract.
use Rattle.std.proofs.Common.{◌+◌, length, refl, ap, arith}
use Rattle.tags.specs.Tags.{exactly}
use Rattle.reading.specs.Trace.{up_to}
use Rattle.reading.specs.Noted.{on}
use Rattle.notes.specs.Steps.{stated, stepped}
use Rattle.straight.specs.Exact.{inside_of, may_of}
use Rattle.straight.proofs.Groups.{start_within, good_there, by_whole, by_cut, by_passed, makes_at}
use Rattle.straight.proofs.Elements.{refused_at}
use Rattle.straight.proofs.part.Message.may_one.Goals as goal

pub overflow_add-at : goal.overflow_add-at
overflow_add-at c =
    let the-pre = c.requires in
    let the-seek = c.seek-look in
    let a = c.args in
    omega (
      arith,
      start_within a.self.m.now a.st.at a.st.notes the-pre.0 (exactly a.start.now) the-seek.result.at the-seek.ensures.0 the-seek.ensures.1
          the-seek.result.look the-seek.ensures.2 a.start.now refl c.in-Whole.is,
      the-pre.0.small,
    )

pub overflow_cast-at : goal.overflow_cast-at
overflow_cast-at c =
    let the-pre = c.requires in
    let the-seek = c.seek-look in
    let a = c.args in
    omega (
      arith,
      start_within a.self.m.now a.st.at a.st.notes the-pre.0 (exactly a.start.now) the-seek.result.at the-seek.ensures.0 the-seek.ensures.1
          the-seek.result.look the-seek.ensures.2 a.start.now refl c.in-Whole.is,
      the-pre.0.small,
    )

pub inside-requires : goal.inside-requires
inside-requires c =
    let the-pre = c.requires in
    let the-seek = c.seek-look in
    let a = c.args in (
      good_there a.self.m.now a.st.at a.st.notes the-pre.0 (exactly a.start.now) the-seek.result.at the-seek.ensures.0 the-seek.ensures.1 the-seek.result.look
          the-seek.ensures.2 (the-seek.result.at + length a.start.now) (start_within a.self.m.now a.st.at a.st.notes the-pre.0 (exactly a.start.now) the-seek.result.at
          the-seek.ensures.0 the-seek.ensures.1 the-seek.result.look the-seek.ensures.2 a.start.now refl c.in-Whole.is) (stated c.at_place.result)
          c.at_place.ensures,
      the-pre.1,
    )

pub overflow_cast-at-in-Other : goal.overflow_cast-at-in-Other
overflow_cast-at-in-Other c = omega (arith, c.seek-look.ensures.1, c.requires.0.small)

pub returns-in-Whole : goal.returns-in-Whole
unfolding may_of
returns-in-Whole c =
    let the-pre = c.requires in
    let the-seek = c.seek-look in
    let the-at-place = c.at_place in
    let TheInside = c.inside in
    let a = c.args in
    by_whole a.self.m.now a.st.at a.st.notes the-pre.0 (exactly a.start.now) the-seek.result.at the-seek.ensures.0 the-seek.ensures.1 the-seek.result.look
    the-seek.ensures.2 (λ q. inside_of a.leaf.start.now a.leaf.finish.now a.finish.now a.leaf.kind a.leaf.field a.self.m.now (q + length a.start.now)) up_to a.places.now c.in-Whole.is
    (stepped TheInside.result) _
    (makes_at a.self.m.now (inside_of a.leaf.start.now a.leaf.finish.now a.finish.now a.leaf.kind a.leaf.field a.self.m.now) (stated the-at-place.result) (the-seek.result.at + length a.start.now)
    a.st.notes the-at-place.ensures
    a.places.now (stepped TheInside.result) _ TheInside.ensures)

pub returns-in-Cut : goal.returns-in-Cut
unfolding may_of
returns-in-Cut c =
    let the-pre = c.requires in
    let the-seek = c.seek-look in
    let a = c.args in
    by_cut a.self.m.now a.st.at a.st.notes the-pre.0 (exactly a.start.now) the-seek.result.at the-seek.ensures.0 the-seek.ensures.1 the-seek.result.look
    the-seek.ensures.2 (λ q. inside_of a.leaf.start.now a.leaf.finish.now a.finish.now a.leaf.kind a.leaf.field a.self.m.now (q + length a.start.now)) up_to a.places.now c.in-Cut.is
    _ (refused_at _ _ c.at.ensures)

pub returns-in-Other : goal.returns-in-Other
unfolding may_of
returns-in-Other c =
    let the-pre = c.requires in
    let the-seek = c.seek-look in
    let a = c.args in
    by_passed a.self.m.now a.st.at a.st.notes the-pre.0 (exactly a.start.now) the-seek.result.at the-seek.ensures.0 the-seek.ensures.1 the-seek.result.look
    the-seek.ensures.2 (λ q. inside_of a.leaf.start.now a.leaf.finish.now a.finish.now a.leaf.kind a.leaf.field a.self.m.now (q + length a.start.now)) up_to a.places.now c.in-Other.is
    (λ z. refl) _ (ap on c.at_place-in-Other.ensures)
