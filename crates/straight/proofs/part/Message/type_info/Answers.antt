-- `straight::part::Message::type_info` meets its contract.
use Rattle.std.proofs.Common.{◌+◌, ◌≤◌, true, false, length, sym, refl, ap, ◌∙◌, arith}
use Rattle.tags.specs.Tags.{exactly, plain_tag}
use Rattle.profile.specs.Profile.{type_name}
use Rattle.reading.specs.Trace.{there, absent, ◌at◌, met, up_to}
use Rattle.reading.specs.Noted.{on, Ended}
use Rattle.notes.specs.declared.Notes.{Notes}
use Rattle.notes.specs.Notes.{type_noted}
use Rattle.notes.specs.Steps.{stated, staying, stepped}
use Rattle.notes.proofs.Notings.{here}
use Rattle.notes.proofs.Stays.{type_fine}
use Rattle.straight.specs.Exact.{in_type_of, type_of}
use Rattle.straight.proofs.Elements.{refused_at}
use Rattle.straight.proofs.Groups.{start_within, good_there, by_whole, by_cut, by_other, handed_on}
use Rattle.straight.proofs.Types.{goes_at, after_fine, type_there, type_refused, type_absent}
use Rattle.straight.proofs.part.Message.type_info.Goals as goal

pub overflow_add-at : goal.overflow_add-at
overflow_add-at c =
    let a = c.args in
    let s = c.seek-look in
    omega (
      arith,
      start_within a.self.m.now a.st.at a.st.notes c.requires (exactly (plain_tag type_name)) s.result.at s.ensures.0 s.ensures.1 s.result.look s.ensures.2 (plain_tag type_name)
          refl c.in-Whole.is,
      c.requires.small,
    )

pub overflow_cast-at-in-Whole : goal.overflow_cast-at-in-Whole
overflow_cast-at-in-Whole c =
    let a = c.args in
    let s = c.seek-look in
    let w : s.result.at + 10 ≤ length a.self.m.now = start_within a.self.m.now a.st.at a.st.notes c.requires (exactly (plain_tag type_name)) s.result.at s.ensures.0 s.ensures.1
    s.result.look s.ensures.2 (plain_tag type_name) refl c.in-Whole.is in
    omega (arith, w, c.requires.small)

pub in_type-requires : goal.in_type-requires
in_type-requires c =
    let a = c.args in
    let m = a.self.m.now in
    let s = c.seek-look in
    let q = s.result.at in
    let r = stepped c.say_type.result in
    let u = stated c.at_place-in-Whole.result in
    let e = c.say_type.ensures ∙ ap (λ (s : Ended Notes). staying s.at (type_noted true s.at s.notes)) c.at_place.ensures in
    let g = good_there m a.st.at a.st.notes c.requires (exactly (plain_tag type_name)) q s.ensures.0 s.ensures.1 s.result.look s.ensures.2 q s.ensures.1 (here q a.st.notes) refl in
    (after_fine m q (q + 10) r (on u) (rw e (type_fine m q a.st.notes g true))
    (start_within m a.st.at a.st.notes c.requires (exactly (plain_tag type_name)) q s.ensures.0 s.ensures.1 s.result.look s.ensures.2 (plain_tag type_name) refl c.in-Whole.is)
    (goes_at r (stated c.in_ok-st-in-Whole.st) (ap stepped (sym c.in_ok-st-in-Whole.was)) (q + 10) u c.at_place-in-Whole.ensures)).0

pub returns-in_ok-st-in-Whole : goal.returns-in_ok-st-in-Whole
unfolding type_of
returns-in_ok-st-in-Whole c =
    let a = c.args in
    let m = a.self.m.now in
    let s = c.seek-look in
    let q = s.result.at in
    let r = stepped c.say_type.result in
    let u = stated c.at_place-in-Whole.result in
    let i = c.in_type.ensures in
    let e = c.say_type.ensures ∙ ap (λ (s : Ended Notes). staying s.at (type_noted true s.at s.notes)) c.at_place.ensures in
    by_whole m a.st.at a.st.notes c.requires (exactly (plain_tag type_name)) q s.ensures.0 s.ensures.1 s.result.look s.ensures.2
    (λ q. met (there type_name at q) (in_type_of m (q + length (plain_tag type_name)))) (λ q. met (absent type_name at q) (up_to q)) a.places.now c.in-Whole.is
    (stepped c.in_type.result) _
    (type_there m q a.st.notes a.places.now (q + 10) r e (on u)
    (goes_at r (stated c.in_ok-st-in-Whole.st) (ap stepped (sym c.in_ok-st-in-Whole.was)) (q + 10) u c.at_place-in-Whole.ensures)
    (stepped c.in_type.result) _ (i.is, i.fine, i.places))

pub returns-in_err-st-in-Whole : goal.returns-in_err-st-in-Whole
unfolding type_of
returns-in_err-st-in-Whole c =
    let a = c.args in
    let m = a.self.m.now in
    let s = c.seek-look in
    let q = s.result.at in
    let e = c.say_type.ensures ∙ ap (λ (s : Ended Notes). staying s.at (type_noted true s.at s.notes)) c.at_place.ensures in
    let g = good_there m a.st.at a.st.notes c.requires (exactly (plain_tag type_name)) q s.ensures.0 s.ensures.1 s.result.look s.ensures.2 q s.ensures.1 (here q a.st.notes) refl in
    let w = start_within m a.st.at a.st.notes c.requires (exactly (plain_tag type_name)) q s.ensures.0 s.ensures.1 s.result.look s.ensures.2 (plain_tag type_name) refl c.in-Whole.is in
    handed_on _ _ c.from_residual.ensures.1
    (by_whole m a.st.at a.st.notes c.requires (exactly (plain_tag type_name)) q s.ensures.0 s.ensures.1 s.result.look s.ensures.2
    (λ q. met (there type_name at q) (in_type_of m (q + length (plain_tag type_name)))) (λ q. met (absent type_name at q) (up_to q)) a.places.now c.in-Whole.is _ _
    (type_refused m q a.st.notes a.places.now g (q + 10) w (stepped c.say_type.result) e _ _ (ap stepped (sym c.in_err-st-in-Whole.was))))

pub returns-in-Cut : goal.returns-in-Cut
unfolding type_of
returns-in-Cut c =
    let a = c.args in
    let m = a.self.m.now in
    let s = c.seek-look in
    by_cut m a.st.at a.st.notes c.requires (exactly (plain_tag type_name)) s.result.at s.ensures.0 s.ensures.1 s.result.look s.ensures.2
    (λ q. met (there type_name at q) (in_type_of m (q + length (plain_tag type_name)))) (λ q. met (absent type_name at q) (up_to q)) a.places.now c.in-Cut.is
    _ (refused_at _ _ c.at.ensures)

pub returns-in-Other : goal.returns-in-Other
unfolding type_of
returns-in-Other c =
    let a = c.args in
    let m = a.self.m.now in
    let s = c.seek-look in
    let q = s.result.at in
    let g = good_there m a.st.at a.st.notes c.requires (exactly (plain_tag type_name)) q s.ensures.0 s.ensures.1 s.result.look s.ensures.2 q s.ensures.1 (here q a.st.notes) refl in
    by_other m a.st.at a.st.notes c.requires (exactly (plain_tag type_name)) q s.ensures.0 s.ensures.1 s.result.look s.ensures.2
    (λ q. met (there type_name at q) (in_type_of m (q + length (plain_tag type_name)))) (λ q. met (absent type_name at q) (up_to q)) a.places.now c.in-Other.is
    (stepped c.say_type-in-Other.result) a.places.now
    (type_absent m q a.st.notes a.places.now g (stepped c.say_type-in-Other.result)
    (c.say_type-in-Other.ensures ∙ ap (λ (s : Ended Notes). staying s.at (type_noted false s.at s.notes)) c.at_place-in-Other.ensures))
