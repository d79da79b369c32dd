-- `straight::part::Message::enter` meets its contract.
use Rattle.std.proofs.Common.{◌≡◌, length, refl, ap, arith}
use Rattle.reading.specs.Noted.{on}
use Rattle.notes.specs.Steps.{stated, reads, Fine}
use Rattle.straight.specs.Exact.{enter_of}
use Rattle.straight.proofs.Amounts.{amount_within, enter_euro, enter_other, enter_cut, enter_missing}
use Rattle.straight.proofs.Elements.{refused_at}
use Rattle.engine.proofs.Steps.{lies_whole, lies_not}
use Rattle.straight.proofs.Groups.{handed}
use Rattle.straight.proofs.part.Message.enter.Goals as goal

pub overflow_add-e : goal.overflow_add-e
overflow_add-e c =
    let a = c.args in
    let m = a.self.m.now in
    let s = c.seek_amount-look in
    let e = lies_whole (length m) s.result.at (stated a.st) s.result.look (c.in_ok-expect_whole.ensures (stated a.st)) in
    omega (arith, amount_within m a.st.at a.st.notes c.requires a.start.now s.result.at s.ensures.0 s.ensures.1 s.result.look s.ensures.2 e, c.requires.small)

pub overflow_add-e-2 : goal.overflow_add-e-2
overflow_add-e-2 c =
    let a = c.args in
    let m = a.self.m.now in
    let s = c.seek_amount-look in
    let e = lies_whole (length m) s.result.at (stated a.st) s.result.look (c.in_ok-expect_whole.ensures (stated a.st)) in
    omega (arith, amount_within m a.st.at a.st.notes c.requires a.start.now s.result.at s.ensures.0 s.ensures.1 s.result.look s.ensures.2 e, c.requires.small)

pub overflow_cast-e : goal.overflow_cast-e
overflow_cast-e c =
    let a = c.args in
    let m = a.self.m.now in
    let s = c.seek_amount-look in
    let e = lies_whole (length m) s.result.at (stated a.st) s.result.look (c.in_ok-expect_whole.ensures (stated a.st)) in
    omega (arith, amount_within m a.st.at a.st.notes c.requires a.start.now s.result.at s.ensures.0 s.ensures.1 s.result.look s.ensures.2 e, c.requires.small)

pub returns-in_err-expect_whole : goal.returns-in_err-expect_whole
returns-in_err-expect_whole c =
    let a = c.args in
    let m = a.self.m.now in
    let s = c.seek_amount-look in
    handed (λ x. (x ≡ reads (enter_of a.start.now m a.st.at) a.st.notes) × Fine m a.st.at x) _ _ c.from_residual.ensures.1
    (lies_not (length m) s.result.at (stated a.st) (λ x. (x ≡ reads (enter_of a.start.now m a.st.at) a.st.notes) × Fine m a.st.at x) s.result.look _ _ (c.in_err-expect_whole.ensures (stated a.st))
    (λ e. enter_cut m a.st.at a.st.notes c.requires a.start.now s.result.at s.ensures.0 s.ensures.1 s.result.look s.ensures.2 e _ refl)
    (λ e. enter_missing m a.st.at a.st.notes c.requires a.start.now s.result.at s.ensures.0 s.ensures.1 s.result.look s.ensures.2 e _ refl))

pub returns-then-in_euro : goal.returns-then-in_euro
returns-then-in_euro c =
    let a = c.args in
    let m = a.self.m.now in
    let s = c.seek_amount-look in
    let e = lies_whole (length m) s.result.at (stated a.st) s.result.look (c.in_ok-expect_whole.ensures (stated a.st)) in
    enter_euro m a.st.at a.st.notes c.requires a.start.now s.result.at s.ensures.0 s.ensures.1 s.result.look s.ensures.2 e c.in_euro.result c.in_euro.ensures c.if-in_euro.true _ (ap on c.at_place.ensures)

pub returns : goal.returns
returns c =
    let a = c.args in
    let m = a.self.m.now in
    let s = c.seek_amount-look in
    let e = lies_whole (length m) s.result.at (stated a.st) s.result.look (c.in_ok-expect_whole.ensures (stated a.st)) in
    enter_other m a.st.at a.st.notes c.requires a.start.now s.result.at s.ensures.0 s.ensures.1 s.result.look s.ensures.2 e c.in_euro.result c.in_euro.ensures c.if-in_euro.false c.currency_place.result
    c.currency_place.ensures _ (refused_at _ _ c.at.ensures)
