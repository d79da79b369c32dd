-- `records::put_to_end` meets its contract: the two fields and the last byte.
use Rattle.records.proofs.Fields.{all_laid_lem}
use Rattle.records.proofs.put_to_end.Goals as goal

pub returns : goal.returns
returns c =
    let a = c.args in
    all_laid_lem a.m.now a.row.now a.rec.now a.instrument c.put_at.ensures c.put.ensures c.put.array_long
