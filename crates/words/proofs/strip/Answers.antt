-- `words::strip` meets its contract: the part behind the first blanks, up to the last byte that is none.
use Prim.Native.Nat.{◌≤◌, ◌-◌}
use native.Mathlib.Omega.{arith}
use borrow.Author.Rules.{rules}
use lib.ListN.{length, take, drop}
use Rattle.text.proofs.Scan.{lead_le}
use Rattle.words.specs.Walk.{blank}
use Rattle.words.proofs.Ends.{part_long, part_stripped}
use Rattle.words.proofs.strip.Goals as goal

pub slice_bounds-t-count : goal.slice_bounds-t-count
slice_bounds-t-count c = omega (arith, lead_le blank c.args.s.now)

pub slice_bounds-t-start : goal.slice_bounds-t-start
slice_bounds-t-start c =
    let s = c.args.s.now in
    let h : c.blanks.result ≤ length s = omega (arith, lead_le blank s) in
    search rules

pub slice_bounds-result-end : goal.slice_bounds-result-end
slice_bounds-result-end c =
    let s = c.args.s.now in
    let a = c.blanks in
    part_long blank (take (length s - a.result) (drop a.result s)) c.reach.result c.reach.ensures

pub returns : goal.returns
returns c =
    let s = c.args.s.now in
    let a = c.blanks in
    part_stripped blank s a.result c.reach.result a.ensures c.reach.ensures
