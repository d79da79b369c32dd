-- `straight::items` meets its contract. The loop's invariant: the rows of the items that are read stand before what was lent;
-- the next item is within the message; what is kept of those before is spelled in it.
use Rattle.std.proofs.Common.{◌≡◌, ◌/◌, length, sym, ap, arith}
use Rattle.notes.specs.Steps.{stated, stepped}
use Rattle.engine.proofs.Rows.{reads_begin, reads_end, reads_stop, reads_on, row_fits, reads_long, reads_far}
use Rattle.engine.proofs.Steps.{fine_on}
use Rattle.straight.proofs.items.Goals as goal
use Rattle.straight.proofs.items.Goals.{then-m-gt-MOST_BYTES-via-then-m-gt-MOST_BYTES, then-m-gt-MOST_BYTES-via-else-m-gt-MOST_BYTES+then-m-at}

pub returns-then-m-gt-MOST_BYTES : goal.returns-then-m-gt-MOST_BYTES
returns-then-m-gt-MOST_BYTES c =
    let a = c.args in
    elim c.then-m-gt-MOST_BYTES.branch [
      | then-m-gt-MOST_BYTES-via-then-m-gt-MOST_BYTES w ↦ reads_long a.v a.m.now a.at a.rows.now w.if-m-gt-MOST_BYTES.true
      | then-m-gt-MOST_BYTES-via-else-m-gt-MOST_BYTES+then-m-at w ↦ reads_far a.v a.m.now a.at a.rows.now w.if-m-gt-MOST_BYTES.false w.if-m-at.true
    ]

pub loop-i-init : goal.loop-i-init
loop-i-init c =
    let a = c.args in
    (reads_begin a.v a.m.now a.at a.rows.now, c.if-m-at.false, c.new-before.ensures a.m.now a.v)

pub overflow_mul-from : goal.overflow_mul-from
overflow_mul-from c = omega (arith, row_fits c.loop-i.invariant.0 c.loop-i-test.true, c.loop-i.invariant.0.long, c.well_formed.1.1.1.0.1)

pub overflow_add-from : goal.overflow_add-from
overflow_add-from c = omega (arith, row_fits c.loop-i.invariant.0 c.loop-i-test.true, c.loop-i.invariant.0.long, c.well_formed.1.1.1.0.1)

pub offset_bounds-rows-from : goal.offset_bounds-rows-from
offset_bounds-rows-from c = omega (arith, row_fits c.loop-i.invariant.0 c.loop-i-test.true, c.loop-i.invariant.0.long, c.well_formed.1.1.1.0.1)

pub slice_bounds-tell-count : goal.slice_bounds-tell-count
slice_bounds-tell-count c = omega (arith, row_fits c.loop-i.invariant.0 c.loop-i-test.true, c.loop-i.invariant.0.long, c.well_formed.1.1.1.0.1)

pub slice_bounds-tell-start : goal.slice_bounds-tell-start
slice_bounds-tell-start c = omega (arith, row_fits c.loop-i.invariant.0 c.loop-i-test.true, c.loop-i.invariant.0.long, c.well_formed.1.1.1.0.1)

pub slice_bounds-tell-end : goal.slice_bounds-tell-end
slice_bounds-tell-end c = omega (arith, row_fits c.loop-i.invariant.0 c.loop-i-test.true, c.loop-i.invariant.0.long, c.well_formed.1.1.1.0.1)

pub alone-requires : goal.alone-requires
alone-requires c = (c.if-m-gt-MOST_BYTES.false, c.loop-i.invariant.1, c.texts-t.ensures, c.loop-i.invariant.2)

pub returns-in_default : goal.returns-in_default
returns-in_default c = reads_stop c.loop-i.invariant.0 c.loop-i-test.true c.alone.ensures.0 _ _ (ap stepped c.in_default.is)

pub loop-i-preserved : goal.loop-i-preserved
loop-i-preserved c =
    let f = c.alone in
    let told = c.tell in
    let e = ap stepped c.in-Ok.is in
    (reads_on c.loop-i.invariant.0 c.loop-i-test.true f.ensures.0 _ e told.new.part told.ensures told.auto.part, (fine_on c.args.m.now 0 (stepped f.result) (stated c.in-Ok.st) (sym e) f.ensures.1).0.within, f.ensures.2)

pub shape_of-rows : goal.shape_of-rows
shape_of-rows c = c.loop-i.invariant.0.long

pub returns : goal.returns
returns c =
    let e : c.loop-i.i ≡ length c.args.rows.now / 28 = omega arith in
    rw e at (reads_end c.loop-i.invariant.0 c.loop-i-test.false)
