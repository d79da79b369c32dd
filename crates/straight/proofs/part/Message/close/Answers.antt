-- `straight::part::Message::close` meets its contract.
use Rattle.std.proofs.Common.{◌≡◌, length, sym, refl, ap, arith}
use Rattle.tags.specs.Tags.{exactly}
use Rattle.tags.proofs.Looks.{exactly_length}
use Rattle.reading.specs.Noted.{on}
use Rattle.notes.specs.Steps.{stated, reads, Fine}
use Rattle.engine.specs.Engine.{closed_by}
use Rattle.engine.proofs.Steps.{close_fits, closed_whole, closed_cut, closed_other}
use Rattle.engine.proofs.Steps.{lies_whole, lies_not}
use Rattle.straight.proofs.Groups.{handed}
use Rattle.straight.proofs.part.Message.close.Goals as goal

pub overflow_cast-at-2 : goal.overflow_cast-at-2
overflow_cast-at-2 c =
    let a = c.args in
    let m = a.self.m.now in
    let l = c.text_at in
    let e = lies_whole (length m) a.st.at (stated a.st) l.result (c.in_ok-expect_whole.ensures (stated a.st)) in
    omega (
      arith,
      close_fits m a.st.at a.st.notes (exactly a.finish.now) c.requires l.result l.ensures e (length a.finish.now) (sym (exactly_length a.finish.now)),
      c.requires.small,
    )

pub returns-in_err-expect_whole : goal.returns-in_err-expect_whole
returns-in_err-expect_whole c =
    let a = c.args in
    let m = a.self.m.now in
    let t = exactly a.finish.now in
    let l = c.text_at in
    handed (λ x. (x ≡ reads (closed_by t m a.st.at) a.st.notes) × Fine m a.st.at x) _ _ c.from_residual.ensures.1
    (lies_not (length m) a.st.at (stated a.st) (λ x. (x ≡ reads (closed_by t m a.st.at) a.st.notes) × Fine m a.st.at x) l.result _ _ (c.in_err-expect_whole.ensures (stated a.st))
    (λ e. closed_cut m a.st.at a.st.notes t c.requires l.result l.ensures e _ refl)
    (λ e. closed_other m a.st.at a.st.notes t c.requires l.result l.ensures e _ refl))

pub returns : goal.returns
returns c =
    let a = c.args in
    let m = a.self.m.now in
    let l = c.text_at in
    let e = lies_whole (length m) a.st.at (stated a.st) l.result (c.in_ok-expect_whole.ensures (stated a.st)) in
    closed_whole m a.st.at a.st.notes (exactly a.finish.now) c.requires l.result l.ensures e (length a.finish.now) (sym (exactly_length a.finish.now)) _ (ap on c.at_place.ensures)
