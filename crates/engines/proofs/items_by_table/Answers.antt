-- `engines::items_by_table` meets its contract. The loop's invariant: the rows of the items that are read stand before what was lent.
use mathlib.Core.Path.{◌≡◌, ap}
use Prim.Native.Nat.{◌/◌}
use lib.ListN.{length}
use native.Mathlib.Omega.{arith}
use Rattle.notes.specs.Steps.{stepped}
use Rattle.engine.proofs.Rows.{reads_begin, reads_end, reads_stop, reads_on}
use Rattle.engines.proofs.items_by_table.Goals as goal

pub loop-i-init : goal.loop-i-init
loop-i-init c =
    let a = c.args in
    reads_begin a.v a.m.now a.at a.rows.now

pub returns-in_default : goal.returns-in_default
returns-in_default c = reads_stop c.loop-i.invariant c.loop-i-test.true c.item.ensures.0 _ _ (ap stepped c.in_default.is)

pub loop-i-preserved : goal.loop-i-preserved
loop-i-preserved c =
    let f = c.item in
    let told = c.tell in
    reads_on c.loop-i.invariant c.loop-i-test.true f.ensures.0 _ (ap stepped c.in-Ok.is) told.new.part told.ensures told.auto.part

pub returns : goal.returns
returns c =
    let l = c.loop-i in
    let e : l.i ≡ length c.args.rows.now / 28 = omega arith in
    rw (← e) (reads_end l.invariant c.loop-i-test.false)
