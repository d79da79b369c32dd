-- `records::fill` meets its contract. The loop's invariant: the records of the items that are done stand in the area, and the others stand in the message from here on.
use mathlib.Core.Path.{refl, sym, ◌∙◌}
use Prim.Native.Nat.{◌-◌, ◌*◌, ◌≤◌}
use native.Mathlib.Omega.{arith}
use lib.ListN.{length, drop}
use lib.Seq.{length-take-le, length_front}
use Rattle.engine.specs.Several.{row_length}
use Rattle.records.proofs.Areas.{one_call, fill_begins, fill_ends, part_long, fill_on}
use Rattle.records.proofs.fill.Goals as goal

pub loop-i-init : goal.loop-i-init
loop-i-init c = (fill_begins c.requires, refl)

pub slice_bounds-items-end : goal.slice_bounds-items-end
slice_bounds-items-end c =
    let l = c.loop-i in
    let n = c.min-n in
    let k = one_call (c.args.count - l.i) n.result n.ensures (omega arith) in
    let h : row_length * n.result ≤ length l.rows = omega (arith, k.few, l.invariant.1) in
    sym (length-take-le (row_length * n.result) l.rows h)

pub slice_bounds-lay_rows-end : goal.slice_bounds-lay_rows-end
slice_bounds-lay_rows-end c =
    let l = c.loop-i in
    let n = c.min-n in
    let r = c.items-r in
    sym (length_front l.rows r.new.rows (row_length * n.result) r.auto.rows ∙ l.invariant.1)

pub lay_rows-requires : goal.lay_rows-requires
lay_rows-requires c =
    let l = c.loop-i in
    let n = c.min-n in
    let k = one_call (c.args.count - l.i) n.result n.ensures (omega arith) in
    let r = c.items-r in
    let g = length_front l.rows r.new.rows (row_length * n.result) r.auto.rows ∙ l.invariant.1 in
    (omega (arith, g, k.few), part_long c.requires l.invariant.0 c.loop-i-test.true k)

pub loop-i-preserved : goal.loop-i-preserved
loop-i-preserved c =
    let l = c.loop-i in
    let n = c.min-n in
    let k = one_call (c.args.count - l.i) n.result n.ensures (omega arith) in
    let r = c.items-r in
    let w = c.lay_rows in
    let h : row_length * n.result ≤ length l.rows = omega (arith, k.few, l.invariant.1) in
    let told = rw c.version_of-version.ensures at r.ensures in (
      fill_on c.requires l.invariant.0 c.loop-i-test.true k (length-take-le (row_length * n.result) l.rows h) told (drop (row_length * n.result) l.rows)
          w.new.area w.ensures w.auto.area,
      length_front l.rows r.new.rows (row_length * n.result) r.auto.rows ∙ l.invariant.1,
    )

pub returns : goal.returns
returns c = fill_ends c.requires c.loop-i.invariant.0 c.loop-i-test.false
