-- `twice::plainly` meets its contract. The outer loop's invariant: what the search gives from item i on is what it gives at all. The inner one's: whether the value
-- stands among those from j on to i is whether it stands before item i. The measures are what is left of the lists.
use Rattle.std.proofs.Common.{ap, sym, refl, ◌∙◌, arith}
use Rattle.text.specs.Truth.{at}
use Rattle.text.proofs.Truths.{yes_of, no_of}
use Rattle.twice.specs.Twice.{second, if_any}
use Rattle.twice.proofs.Values.{value_clean}
use Rattle.twice.proofs.Pairs.{some_place, second_end, second_zero, among_later, pair_here, pair_none}
use Rattle.twice.proofs.plainly.Goals as goal

pub search-init : goal.search-init
unfolding second
search-init c = (omega arith, refl, refl)

pub loop-j-init : goal.loop-j-init
loop-j-init c = (omega arith, c.search.invariant.1, refl)

pub holds-requires : goal.holds-requires
holds-requires c =
    let a = c.args in
    let i = c.search.i in
    value_clean a.m.now _ (at a.places.now i) c.value_at-v.ensures

pub loop-j-preserved : goal.loop-j-preserved
loop-j-preserved c =
    let a = c.args in
    let l = c.loop-j in
    let i = c.search.i in
    let v = c.value_at-v in
    let x = no_of c.holds.ensures c.if-holds.false in
    (omega arith, l.invariant.1, sym (among_later a.m.now v.result.now a.places.now i l.j (omega arith) (omega arith) x) ∙ l.invariant.2)

pub search-preserved : goal.search-preserved
search-preserved c =
    let a = c.args in
    let l = c.loop-j in
    let s = c.search in
    let v = c.value_at-v in (
      omega arith,
      l.invariant.1,
      pair_none a.m.now a.places.now v.result.now s.i l.j (omega arith) c.if-p-eq0.false v.ensures
          s.invariant.2 l.invariant.2 c.loop-j-test.false,
    )

pub returns-after-search : goal.returns-after-search
returns-after-search c =
    let a = c.args in
    let s = c.search in
    s.invariant.1 ∙ ap if_any (sym (second_end a.m.now a.places.now s.i c.search-test.false) ∙ s.invariant.2)

pub returns-then-p-eq0 : goal.returns-then-p-eq0
returns-then-p-eq0 c =
    let a = c.args in
    let s = c.search in
    s.invariant.1 ∙ ap if_any (sym (second_zero a.m.now a.places.now s.i (omega arith) c.if-p-eq0.true) ∙ s.invariant.2)

pub returns-then-holds : goal.returns-then-holds
returns-then-holds c =
    let a = c.args in
    let l = c.loop-j in
    let s = c.search in
    let v = c.value_at-v in
    let ne = c.if-p-eq0.false in
    some_place _ ne ∙ ap if_any (pair_here a.m.now a.places.now v.result.now s.i l.j (omega arith) ne v.ensures
    s.invariant.2 l.invariant.2 c.loop-j-test.true (yes_of c.holds.ensures c.if-holds.true))
