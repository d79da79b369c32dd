-- `twice::steps` meets its contract. The loop's invariant: where the walk stops from here is where it stops.
use Rattle.std.proofs.Common.{◌≡◌, sym, ap, ◌∙◌, arith}
use Rattle.twice.specs.Twice.{least_index}
use Rattle.twice.specs.Engine.{passed, numbers_in}
use Rattle.twice.proofs.Entries.{numbers_at_lem}
use Rattle.twice.proofs.Walks.{walk_begins, walk_on, walk_stop, walk_end}
use Rattle.twice.proofs.steps.Goals as goal

pub loop-step-init : goal.loop-step-init
loop-step-init c = walk_begins _ _ _ _ _

pub bounds-index-h : goal.bounds-index-h
unfolding least_index
bounds-index-h c = omega arith

pub passes-requires : goal.passes-requires
unfolding least_index
passes-requires c =
    let p = c.requires in
    (p.0, p.2, p.3 _ (omega arith))

pub loop-step-preserved : goal.loop-step-preserved
unfolding least_index
loop-step-preserved c =
    let a = c.args in
    let l = c.loop-step in
    let p = c.passes in
    walk_on a.m.now a.places.now (numbers_in a.index.now) a.v.now a.h l.step p.result
    (p.ensures ∙ ap (passed a.m.now a.places.now a.v.now) (sym (numbers_at_lem a.index.now _))) (omega arith) c.if-not-passes.false
    ∙ l.invariant

pub returns-then-not-passes : goal.returns-then-not-passes
unfolding least_index
returns-then-not-passes c =
    let a = c.args in
    let l = c.loop-step in
    let p = c.passes in (
      walk_stop a.m.now a.places.now (numbers_in a.index.now) a.v.now a.h l.step p.result
          (p.ensures ∙ ap (passed a.m.now a.places.now a.v.now) (sym (numbers_at_lem a.index.now _))) (omega arith) c.if-not-passes.true ∙ l.invariant,
      omega arith,
    )

pub returns : goal.returns
unfolding least_index
returns c =
    let a = c.args in
    let l = c.loop-step in
    let e : l.step ≡ 16384 = omega arith in
    (sym e ∙ walk_end a.m.now a.places.now (numbers_in a.index.now) a.v.now a.h l.step (omega arith) ∙ l.invariant, omega arith)
