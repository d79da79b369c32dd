-- `book::check` meets its contract.
use Rattle.book.proofs.Answers.{few_asked, many_asked, equal_asked, sum_asked}
use Rattle.book.proofs.check.Goals.{then-entries-lt-MOST-via-then-entries-lt-MOST, then-entries-lt-MOST-via-else-entries-lt-MOST+then-opened-gt-MOST}
use Rattle.std.proofs.Common.{sym, ◌∙◌}
use Rattle.book.proofs.check.Goals as goal

pub returns-then-entries-lt-MOST : goal.returns-then-entries-lt-MOST
returns-then-entries-lt-MOST c =
    let l = c.args.entries.now in
    let n = c.args.opened in
    rw c.at-none.ensures (elim c.then-entries-lt-MOST.branch [
      | then-entries-lt-MOST-via-then-entries-lt-MOST w ↦ few_asked l n w.if-entries-lt-MOST.true
      | then-entries-lt-MOST-via-else-entries-lt-MOST+then-opened-gt-MOST w ↦ many_asked l n w.if-opened-gt-MOST.true
    ])

pub returns-then-two_equal : goal.returns-then-two_equal
returns-then-two_equal c = rw c.at-none.ensures (equal_asked c.args.entries.now c.args.opened (sym c.two_equal.ensures ∙ c.if-two_equal.true))

pub returns : goal.returns
returns c = rw (c.ok_or.ensures.value, c.sum.ensures) (sum_asked _ _ c.if-entries-lt-MOST.false c.if-opened-gt-MOST.false (sym c.two_equal.ensures ∙ c.if-two_equal.false) _ c.at-none.ensures)
