-- `records::put_end_to_end` meets its contract: a reference as it stands, and any other value collapsed.
use Rattle.records.proofs.Fields.{reference_fits, reference_laid}
use Rattle.records.proofs.put_end_to_end.Goals as goal

pub slice_bounds-lay-count : goal.slice_bounds-lay-count
slice_bounds-lay-count c = c.in-Some.ensures.from

pub slice_bounds-lay-start : goal.slice_bounds-lay-start
slice_bounds-lay-start c = c.in-Some.ensures.from

pub lay-requires-in-Some : goal.lay-requires-in-Some
lay-requires-in-Some c = reference_fits c.args.m.now c.args.start _ c.in-Some.ensures

pub returns-in-Some : goal.returns-in-Some
returns-in-Some c =
    let a = c.args in
    reference_laid a.m.now a.start _ c.in-Some.ensures a.rec.now _ _ c.told-rec c.lay.ensures c.lay-in-Some.ensures
