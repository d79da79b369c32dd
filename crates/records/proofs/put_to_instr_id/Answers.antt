-- `records::put_to_instr_id` meets its contract: each field behind the one before it.
use Rattle.records.proofs.Fields.{instr_id_laid}
use Rattle.records.proofs.put_to_instr_id.Goals as goal

pub returns : goal.returns
returns c =
    let a = c.args in
    instr_id_laid a.m.now a.row.now a.rec.now a.sequence c.put.ensures c.put_at.ensures c.put-2.ensures c.put-3.ensures c.put-4.ensures
