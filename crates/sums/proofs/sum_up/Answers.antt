-- `sums::sum_up` meets its contract.
use mathlib.Core.Path.{◌∙◌, ap}
use native.Mathlib.Omega.{arith}
use Rattle.notes.specs.Steps.{stated, stepped}
use Rattle.engine.specs.Engine.{item_at}
use Rattle.records.proofs.Walk.{ready}
use Rattle.sums.proofs.Walk.{add_begins, add_ends, add_stops, add_fits, add_on}
use Rattle.sums.proofs.sum_up.Goals as goal

pub loop-init : goal.loop-init
loop-init c = add_begins _ _ _ _ (ready c.args.m.now c.args.s.now c.requires)

pub returns-in_default : goal.returns-in_default
returns-in_default c =
    let l = c.loop in
    let e = c.item.ensures.0 ∙ ap (λ v. item_at v c.args.m.now l.at) c.version_of-version.ensures in
    add_stops _ _ _ _ (ready c.args.m.now c.args.s.now c.requires) l.counter l.at l.sums l.invariant c.loop-test.true (stepped c.item.result) e _ _ (ap stepped c.in_default.is)

pub add-more-requires : goal.add-more-requires
add-more-requires c =
    let l = c.loop in
    let e = c.item.ensures.0 ∙ ap (λ v. item_at v c.args.m.now l.at) c.version_of-version.ensures in
    add_fits _ _ _ _ (ready c.args.m.now c.args.s.now c.requires) l.counter l.at l.sums l.invariant c.loop-test.true (stepped c.item.result) e
    (stated c.in-Ok.st) (ap stepped c.in-Ok.is) c.wherever-place.result c.type_at.result c.wherever-place.ensures c.type_at.ensures

pub loop-preserved : goal.loop-preserved
loop-preserved c =
    let l = c.loop in
    let e = c.item.ensures.0 ∙ ap (λ v. item_at v c.args.m.now l.at) c.version_of-version.ensures in
    add_on _ _ _ _ (ready c.args.m.now c.args.s.now c.requires) l.counter l.at l.sums l.invariant c.loop-test.true (stepped c.item.result) e
    (stated c.in-Ok.st) (ap stepped c.in-Ok.is) c.wherever-place.result c.type_at.result c.wherever-place.ensures c.type_at.ensures c.add-more.result c.add-more.ensures

pub returns : goal.returns
returns c =
    let l = c.loop in
    add_ends _ _ _ _ (ready c.args.m.now c.args.s.now c.requires) l.counter l.at l.sums l.invariant (omega arith)
