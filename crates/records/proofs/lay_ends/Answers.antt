-- `records::lay_ends` meets its contract: a byte of both parts is laid twice.
use native.Mathlib.Omega.{arith}
use Rattle.records.proofs.Fields.{laid_twice}
use Rattle.records.proofs.lay_ends.Goals as goal

pub returns : goal.returns
returns g c =
    let a = c.args in
    laid_twice a.at g.row.N a.v.now a.rec.now c.lay_bytes.new.rec c.lay_bytes-2.new.rec (omega (arith, c.requires, c.told-rec)) (omega (arith, c.requires)) (omega (arith, c.requires))
    c.lay_bytes.ensures c.lay_bytes-2.ensures
