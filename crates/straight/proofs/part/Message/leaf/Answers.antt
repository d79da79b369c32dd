-- `straight::part::Message::leaf` meets its contract.
use Rattle.std.proofs.Common.{◌+◌, length, refl, ap, arith}
use Rattle.std.specs.Prelude.{Err}
use Rattle.text.specs.Truth.{pick}
use Rattle.tags.specs.Tags.{exactly}
use Rattle.reading.specs.Trace.{up_to, fault}
use Rattle.reading.specs.Noted.{on}
use Rattle.notes.specs.Steps.{stated, stepped}
use Rattle.engine.specs.Engine.{valued_by}
use Rattle.straight.specs.Exact.{leaf_of}
use Rattle.straight.proofs.Elements.{refused_at, makes_by}
use Rattle.straight.proofs.Groups.{start_within, good_there, by_whole, by_cut, by_other, makes_at}
use Rattle.straight.proofs.part.Message.leaf.Goals as goal

pub overflow_add-at : goal.overflow_add-at
overflow_add-at c =
    let a = c.args in
    let s = c.seek-look in
    omega (arith, start_within a.self.m.now a.st.at a.st.notes c.requires.0 (exactly a.leaf.start.now) s.result.at s.ensures.0 s.ensures.1 s.result.look s.ensures.2 a.leaf.start.now refl c.in-Whole.is, c.requires.0.small)

pub overflow_cast-at : goal.overflow_cast-at
overflow_cast-at c =
    let a = c.args in
    let s = c.seek-look in
    omega (arith, start_within a.self.m.now a.st.at a.st.notes c.requires.0 (exactly a.leaf.start.now) s.result.at s.ensures.0 s.ensures.1 s.result.look s.ensures.2 a.leaf.start.now refl c.in-Whole.is, c.requires.0.small)

pub value-requires : goal.value-requires
value-requires c =
    let a = c.args in
    let s = c.seek-look in
    let w = start_within a.self.m.now a.st.at a.st.notes c.requires.0 (exactly a.leaf.start.now) s.result.at s.ensures.0 s.ensures.1 s.result.look s.ensures.2 a.leaf.start.now refl c.in-Whole.is in
    (good_there a.self.m.now a.st.at a.st.notes c.requires.0 (exactly a.leaf.start.now) s.result.at s.ensures.0 s.ensures.1 s.result.look s.ensures.2 (s.result.at + length a.leaf.start.now) w (stated c.at_place.result) c.at_place.ensures, c.requires.1)

pub returns-in-Whole : goal.returns-in-Whole
unfolding leaf_of
returns-in-Whole c =
    let a = c.args in
    let s = c.seek-look in
    by_whole a.self.m.now a.st.at a.st.notes c.requires.0 (exactly a.leaf.start.now) s.result.at s.ensures.0 s.ensures.1 s.result.look s.ensures.2
    (λ q. valued_by (exactly a.leaf.finish.now) a.leaf.kind a.leaf.field a.self.m.now (q + length a.leaf.start.now)) (λ q. pick a.may (up_to q) (fault 4 q)) a.places.now c.in-Whole.is
    (stepped c.value.result) _
    (makes_at a.self.m.now (valued_by (exactly a.leaf.finish.now) a.leaf.kind a.leaf.field a.self.m.now) (stated c.at_place.result) (s.result.at + length a.leaf.start.now) a.st.notes c.at_place.ensures
    a.places.now (stepped c.value.result) _ c.value.ensures)

pub returns-in-Cut : goal.returns-in-Cut
unfolding leaf_of
returns-in-Cut c =
    let a = c.args in
    let s = c.seek-look in
    by_cut a.self.m.now a.st.at a.st.notes c.requires.0 (exactly a.leaf.start.now) s.result.at s.ensures.0 s.ensures.1 s.result.look s.ensures.2
    (λ q. valued_by (exactly a.leaf.finish.now) a.leaf.kind a.leaf.field a.self.m.now (q + length a.leaf.start.now)) (λ q. pick a.may (up_to q) (fault 4 q)) a.places.now c.in-Cut.is
    _ (refused_at _ _ c.at.ensures)

pub returns-in-Other : goal.returns-in-Other
unfolding leaf_of
returns-in-Other c =
    let a = c.args in
    let s = c.seek-look in
    let p = c.at_place-in-Other in
    let g = good_there a.self.m.now a.st.at a.st.notes c.requires.0 (exactly a.leaf.start.now) s.result.at s.ensures.0 s.ensures.1 s.result.look s.ensures.2 s.result.at s.ensures.1 (stated p.result) p.ensures in
    by_other a.self.m.now a.st.at a.st.notes c.requires.0 (exactly a.leaf.start.now) s.result.at s.ensures.0 s.ensures.1 s.result.look s.ensures.2
    (λ q. valued_by (exactly a.leaf.finish.now) a.leaf.kind a.leaf.field a.self.m.now (q + length a.leaf.start.now)) (λ q. pick a.may (up_to q) (fault 4 q)) a.places.now c.in-Other.is
    (on (stated p.result)) a.places.now (makes_by 0 (on (stated p.result)) (rw c.if-may.true (ap on p.ensures), (g, omega arith), rw c.if-may.true refl))

pub returns-in-Other-2 : goal.returns-in-Other-2
unfolding leaf_of
returns-in-Other-2 c =
    let a = c.args in
    let s = c.seek-look in
    let r = c.at-in-Other-2 in
    by_other a.self.m.now a.st.at a.st.notes c.requires.0 (exactly a.leaf.start.now) s.result.at s.ensures.0 s.ensures.1 s.result.look s.ensures.2
    (λ q. valued_by (exactly a.leaf.finish.now) a.leaf.kind a.leaf.field a.self.m.now (q + length a.leaf.start.now)) (λ q. pick a.may (up_to q) (fault 4 q)) a.places.now c.in-Other.is
    (stepped (Err r.result)) a.places.now (makes_by 0 (stepped (Err r.result)) (rw c.if-may.false (refused_at _ _ r.ensures), rw r.ensures s.ensures.1, rw c.if-may.false refl))
