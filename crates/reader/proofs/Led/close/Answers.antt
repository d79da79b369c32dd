-- `reader::Led::close` meets its contract.
use mathlib.Core.Path.{◌≡◌, ap, refl}
use lib.ListN.{length}
use Rattle.std.proofs.lemmas.Result.{err_from_is_err_and}
use Rattle.table.specs.Table.{closes_by}
use Rattle.reading.specs.Noted.{on}
use Rattle.notes.specs.Steps.{stated, reads, Fine}
use Rattle.engine.specs.Engine.{closed_by}
use Rattle.engine.proofs.Steps.{closed_whole, closed_cut, closed_other, lies_whole, lies_not}
use Rattle.reader.proofs.Led.close.Goals as goal

pub returns-in_err-expect_whole : goal.returns-in_err-expect_whole
returns-in_err-expect_whole c =
    let a = c.args in
    let m = a.self.m.now in
    let t = closes_by a.self.names.now a.r in
    let g = c.requires.0 in
    let l = c.closing in
    let f = err_from_is_err_and c.from_residual.result c.from_residual.ensures.1 in
    rw (f.1, f.2)
    (lies_not (length m) a.st.at (stated a.st) (λ x. (x ≡ reads (closed_by t m a.st.at) a.st.notes) × Fine m a.st.at x) l.result _ _ (c.in_err-expect_whole.ensures (stated a.st))
    (λ e. closed_cut m a.st.at a.st.notes t g l.result l.ensures e _ refl)
    (λ e. closed_other m a.st.at a.st.notes t g l.result l.ensures e _ refl))

pub returns : goal.returns
returns c =
    let a = c.args in
    let m = a.self.m.now in
    let l = c.closing in
    let e = lies_whole (length m) a.st.at (stated a.st) l.result (c.in_ok-expect_whole.ensures (stated a.st)) in
    closed_whole m a.st.at a.st.notes (closes_by a.self.names.now a.r) c.requires.0 l.result l.ensures e a.r.finish c.requires.1 _ (rw c.from.ensures at (ap on c.at_place.ensures))
