-- `straight::alone` meets its contract.
use Rattle.std.proofs.Common.{sym, arith}
use Rattle.notes.specs.Steps.{stated, stepped}
use Rattle.straight.proofs.Frame.{starts_good, starts_room, item_makes}
use Rattle.straight.proofs.alone.Goals as goal

pub overflow_cast-p : goal.overflow_cast-p
overflow_cast-p c = omega (arith, c.requires.0, c.requires.1)

pub returns-in-Some : goal.returns-in-Some
returns-in-Some c = let k = c.in-Some.ensures.0 in (sym k.0, (k.1, omega arith), c.swift_item.ensures.1)

pub first_item-requires : goal.first_item-requires
first_item-requires c =
    let a = c.args in
    let h = c.requires in
    let n = c.new in
    (starts_good a.source.v a.source.m.now a.p h.0 h.1 (stated n.result) n.ensures, starts_room a.source.v a.source.m.now a.p h.0 h.1 (stated n.result) n.ensures)

pub returns : goal.returns
returns c =
    let a = c.args in
    let h = c.requires in
    let n = c.new in
    let f = c.first_item in
    let x = item_makes a.source.v a.source.m.now a.p h.0 h.1 (stated n.result) n.ensures _ (stepped f.result) _ f.ensures in
    (x.0, x.1, c.swift_item.ensures.1)
