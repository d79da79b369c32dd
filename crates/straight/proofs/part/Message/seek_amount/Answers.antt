-- `straight::part::Message::seek_amount` meets its contract.
use Rattle.std.proofs.Common.{refl, arith}
use Rattle.tags.specs.Tags.{exactly}
use Rattle.straight.proofs.Groups.{start_within}
use Rattle.straight.proofs.Amounts.{amount_looks, amount_else}
use Rattle.straight.proofs.part.Message.seek_amount.Goals as goal

pub slice_bounds-currency_at-count : goal.slice_bounds-currency_at-count
slice_bounds-currency_at-count c =
    let the-pre = c.requires in
    let the-seek = c.seek-look in
    let a = c.args in
    omega (
      arith,
      start_within a.self.m.now a.st.at a.st.notes the-pre (exactly a.start.now) the-seek.result.at the-seek.ensures.0 the-seek.ensures.1
          the-seek.result.look the-seek.ensures.2 a.start.now refl c.in-Whole.is,
    )

pub slice_bounds-currency_at-start : goal.slice_bounds-currency_at-start
slice_bounds-currency_at-start c =
    let the-pre = c.requires in
    let the-seek = c.seek-look in
    let a = c.args in
    omega (
      arith,
      start_within a.self.m.now a.st.at a.st.notes the-pre (exactly a.start.now) the-seek.result.at the-seek.ensures.0 the-seek.ensures.1
          the-seek.result.look the-seek.ensures.2 a.start.now refl c.in-Whole.is,
    )

pub returns-in-Whole : goal.returns-in-Whole
returns-in-Whole c =
    let the-seek = c.seek-look in
    let a = c.args in (
      the-seek.ensures.0,
      the-seek.ensures.1,
      amount_looks a.self.m.now a.start.now the-seek.result.at the-seek.result.look the-seek.ensures.2 c.in-Whole.is
          c.currency_at.result c.currency_at.ensures,
    )

pub returns-in_default : goal.returns-in_default
returns-in_default c =
    let a = c.args in
    let s = c.seek-look in
    (s.ensures.0, s.ensures.1, amount_else a.self.m.now a.start.now s.result.at s.result.look s.ensures.2 c.in_default.not-Whole)
