-- `records::put_to_cents` meets its contract: each field behind the one before it, and the cents.
use Rattle.records.proofs.Fields.{cents_laid}
use Rattle.records.proofs.put_to_cents.Goals as goal

pub returns : goal.returns
returns c =
    let a = c.args in
    cents_laid a.m.now a.row.now a.rec.now c.row_start.ensures c.put.ensures c.put_end_to_end.ensures c.put-2.ensures c.put-3.ensures c.put-4.ensures
    c.put-5.ensures c.put_cents.ensures
