-- `records::lay_rows` meets its contract.
use Rattle.records.proofs.Areas.{lay_begins, lay_ends, lay_on}
use Rattle.records.proofs.lay_rows.Goals as goal

pub loop-i-init : goal.loop-i-init
loop-i-init c =
    let a = c.args in
    lay_begins a.m.now a.above a.flat.now a.n a.area.now

pub loop-i-preserved : goal.loop-i-preserved
loop-i-preserved c =
    let w = c.make_record in
    lay_on c.requires c.loop-i.invariant c.loop-i-test.true _ c.as_chunks.ensures.front w.new.part w.ensures w.auto.part

pub shape_of-area : goal.shape_of-area
shape_of-area c = c.loop-i.invariant.long

pub returns : goal.returns
returns c = lay_ends c.requires c.loop-i.invariant c.loop-i-test.false
