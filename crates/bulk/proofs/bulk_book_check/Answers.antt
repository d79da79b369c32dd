-- `bulk::bulk_book_check` meets its contract: a checked book stands where its sum is the stored total.
use Rattle.std.proofs.Common.{refl, ap, ◌∙◌}
use Rattle.book.proofs.Answers.{sum_stands}
use Rattle.bulk.specs.Told.{told_is, lent_book}
use Rattle.bulk.proofs.bulk_book_check.Goals as goal

pub returns : goal.returns
returns c =
    let a = c.args in
    let n = c.numbers_in-lent in
    c.tell_is.ensures ∙ ap told_is (rw n.ensures (sum_stands c.check.result (lent_book a.entries.now a.numbers.now) (c.check.ensures ∙ rw n.ensures refl)))
