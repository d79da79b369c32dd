-- `straight::quick::item_tag` meets its contract.
use Rattle.std.proofs.Common.{◌+◌, [], arith}
use Rattle.std.proofs.lemmas.Option.{IfSome_then}
use Rattle.straight.proofs.Groups.{sought_at, sought_within}
use Rattle.straight.proofs.Begins.{item_begins_lem}
use Rattle.straight.proofs.quick.item_tag.Goals as goal

pub overflow_add-p : goal.overflow_add-p
overflow_add-p c =
    let a = c.args in
    let s = c.spaces in
    omega (arith, sought_within a.m.now [] a.at s.result c.requires s.ensures)

pub here-requires : goal.here-requires
here-requires c =
    let a = c.args in
    let s = c.spaces in
    (sought_within a.m.now [] a.at s.result c.requires s.ensures, omega arith, omega arith)

pub returns : goal.returns
returns c =
    let a = c.args in
    let s = c.spaces in
    let m = a.m.now in
    IfSome_then c.here.result c.here.ensures (λ r e. (e.within, item_begins_lem m a.at (a.at + s.result) r (sought_at m [] a.at s.result c.requires s.ensures) e))
