-- `straight::part::Message::open_tag` meets its contract.
use Rattle.std.proofs.Common.{◌≡◌, length, refl, ap, arith}
use Rattle.tags.specs.Tags.{exactly}
use Rattle.reading.specs.Noted.{on}
use Rattle.notes.specs.Steps.{stated, reads, Fine}
use Rattle.straight.specs.Exact.{open_of}
use Rattle.engine.proofs.Steps.{lies_whole, lies_not}
use Rattle.straight.proofs.Groups.{start_within, open_whole, open_cut, open_other, handed}
use Rattle.straight.proofs.part.Message.open_tag.Goals as goal

pub overflow_add-at : goal.overflow_add-at
overflow_add-at c =
    let a = c.args in
    let m = a.self.m.now in
    let s = c.seek-look in
    let e = lies_whole (length m) s.result.at (stated a.st) s.result.look (c.in_ok-expect_whole.ensures (stated a.st)) in
    omega (arith, start_within m a.st.at a.st.notes c.requires (exactly a.start.now) s.result.at s.ensures.0 s.ensures.1 s.result.look s.ensures.2 a.start.now refl e, c.requires.small)

pub overflow_cast-at : goal.overflow_cast-at
overflow_cast-at c =
    let a = c.args in
    let m = a.self.m.now in
    let s = c.seek-look in
    let e = lies_whole (length m) s.result.at (stated a.st) s.result.look (c.in_ok-expect_whole.ensures (stated a.st)) in
    omega (arith, start_within m a.st.at a.st.notes c.requires (exactly a.start.now) s.result.at s.ensures.0 s.ensures.1 s.result.look s.ensures.2 a.start.now refl e, c.requires.small)

pub returns-in_err-expect_whole : goal.returns-in_err-expect_whole
returns-in_err-expect_whole c =
    let a = c.args in
    let m = a.self.m.now in
    let s = c.seek-look in
    let t = exactly a.start.now in
    handed (λ x. (x ≡ reads (open_of a.start.now m a.st.at) a.st.notes) × Fine m a.st.at x) _ _ c.from_residual.ensures.1
    (lies_not (length m) s.result.at (stated a.st) (λ x. (x ≡ reads (open_of a.start.now m a.st.at) a.st.notes) × Fine m a.st.at x) s.result.look _ _ (c.in_err-expect_whole.ensures (stated a.st))
    (λ e. open_cut m a.st.at a.st.notes c.requires t s.result.at s.ensures.0 s.ensures.1 s.result.look s.ensures.2 a.start.now refl e _ refl)
    (λ e. open_other m a.st.at a.st.notes c.requires t s.result.at s.ensures.0 s.ensures.1 s.result.look s.ensures.2 a.start.now refl e _ refl))

pub returns : goal.returns
returns c =
    let a = c.args in
    let m = a.self.m.now in
    let s = c.seek-look in
    let e = lies_whole (length m) s.result.at (stated a.st) s.result.look (c.in_ok-expect_whole.ensures (stated a.st)) in
    open_whole m a.st.at a.st.notes c.requires (exactly a.start.now) s.result.at s.ensures.0 s.ensures.1 s.result.look s.ensures.2 a.start.now refl e _ (ap on c.at_place.ensures)
