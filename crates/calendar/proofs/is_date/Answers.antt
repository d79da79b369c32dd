-- `calendar::is_date` meets its contract.
use mathlib.Core.Path.{◌∙◌, sym}
use borrow.Author.Tests.{lt-leb}
use Rattle.text.proofs.Truths.{yes_of, no_of, fails}
use Rattle.calendar.specs.Pattern.{written}
use Rattle.calendar.specs.Date.{date_form}
use Rattle.calendar.proofs.Dates.{no_year, date_is}
use Rattle.calendar.proofs.is_date.Goals as goal

pub returns-else-is_written : goal.returns-else-is_written
unfolding date_form written
returns-else-is_written c =
    c.if-is_written.false ∙ sym (fails _ 0 (no_of c.is_written.ensures c.if-is_written.false))

pub returns-then-y-ge1 : goal.returns-then-y-ge1
unfolding written
returns-then-y-ge1 c =
    let f = (yes_of c.is_written.ensures c.if-is_written.true) in
    let year = date_is _ f _ _ c.two_at.ensures.value c.two_at-then-is_written.ensures.value c.if-y-ge1.true in
    c.is_day.ensures ∙ year _ _ c.two_at-then-y-ge1.ensures.value c.two_at-then-y-ge1-2.ensures.value

pub returns-else-y-ge1 : goal.returns-else-y-ge1
unfolding written
returns-else-y-ge1 c =
    let f = (yes_of c.is_written.ensures c.if-is_written.true) in
    lt-leb 1 _ c.if-y-ge1.false ∙ no_year _ f _ _ c.two_at.ensures.value c.two_at-then-is_written.ensures.value c.if-y-ge1.false
