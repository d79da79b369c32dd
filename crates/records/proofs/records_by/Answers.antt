-- `records::records_by` meets its contract: the judge's refusal, no room, and the records.
use Rattle.std.proofs.lemmas.Result.{err_from_is_err_and}
use Rattle.records.proofs.Walk.{surveyed_with}
use Rattle.records.proofs.Areas.{no_room, has_room, filled_up, refused_with, answered_with}
use Rattle.records.proofs.records_by.Goals as goal

pub returns-in_err-s : goal.returns-in_err-s
returns-in_err-s c =
    let a = c.args in
    let p = err_from_is_err_and c.from_residual.result c.from_residual.ensures.1 in
    let y = refused_with a.index.now a.m.now a.area.now _ c.in_err-s.ensures.0 in
    rw (p.1, p.2) (y.0, y.1, c.read_by.ensures.1)

pub returns-then-area-count : goal.returns-then-area-count
returns-then-area-count c =
    let a = c.args in
    let i = a.index.now in
    let s = c.in_ok-s.s in
    let e = c.in_ok-s.ensures.0 in
    let y = answered_with i a.m.now a.area.now s e _ _ (no_room a.m.now a.area.now s (surveyed_with i a.m.now s e) c.if-area-count.true) in
    rw c.at.ensures (y.0, y.1, c.read_by.ensures.1)

pub fill-requires : goal.fill-requires
fill-requires c =
    let a = c.args in
    has_room a.m.now a.area.now c.in_ok-s.s (surveyed_with a.index.now a.m.now c.in_ok-s.s c.in_ok-s.ensures.0) c.if-area-count.false

pub returns : goal.returns
returns c =
    let a = c.args in
    let i = a.index.now in
    let s = c.in_ok-s.s in
    let e = c.in_ok-s.ensures.0 in
    let y = answered_with i a.m.now a.area.now s e _ _ (filled_up a.m.now a.area.now s (surveyed_with i a.m.now s e) c.if-area-count.false _ c.fill.ensures) in
    (y.0, y.1, c.read_by.ensures.1)
