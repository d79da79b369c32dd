-- `records::lay_bytes` meets its contract: a part of the record becomes the value.
use Rattle.std.proofs.Common.{rules}
use Rattle.records.proofs.Fields.{mid_laid}
use Rattle.records.proofs.lay_bytes.Goals as goal

pub returns : goal.returns
returns c =
    let a = c.args in
    rw (c.lay.ensures.whole (search rules)) (mid_laid a.at a.v.now a.rec.now)
