-- `bulk::bulk_book_total` meets its contract.
use Rattle.std.proofs.Common.{◌≡◌, refl}
use Rattle.bulk.proofs.bulk_book_total.Goals as goal

pub returns : goal.returns
returns c =
    λ l. let z : c.show.result ≡ c.numbers_in-lent.result.total = cc (c.show.ensures l) in
    rw (z, c.numbers_in-lent.ensures) refl
