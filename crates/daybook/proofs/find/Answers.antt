-- `daybook::find` meets its contract.
use Rattle.std.proofs.lemmas.Result.{err_from_is_err_and}
use Rattle.book.specs.Code.{book_of}
use Rattle.daybook.proofs.Lent.{searched_err, searched_ok}
use Rattle.daybook.proofs.find.Goals as goal

pub returns-in_err-check : goal.returns-in_err-check
returns-in_err-check c =
    let p = err_from_is_err_and c.from_residual.result c.from_residual.ensures.1 in
    rw (p.1, p.2) (searched_err c.args.key.now (book_of c.args.entries.now c.args.opened) c.in_err-check.field-0.0 c.in_err-check.ensures)

pub returns : goal.returns
returns c = rw c.search.ensures (searched_ok c.args.key.now (book_of c.args.entries.now c.args.opened) c.in_ok-check.field-0 c.in_ok-check.ensures)
