-- `twice::passes` meets its contract.
use Rattle.std.proofs.Common.{ap, ◌∙◌}
use borrow.Author.Tests.{eq-eqb, ne_eqb}
use mathlib.Core.Bool.{not}
use Rattle.twice.proofs.Walks.{passed_not}
use Rattle.twice.proofs.Entries.{passes_free, passes_upper, number_full}
use Rattle.twice.proofs.passes.Goals as goal

pub returns-else-e-ne0 : goal.returns-else-e-ne0
returns-else-e-ne0 c =
    let a = c.args in
    ap not (eq-eqb a.e 0 c.if-e-ne0.false) ∙ passes_free a.m.now a.places.now a.v.now a.e c.if-e-ne0.false

pub returns-then-upper_of : goal.returns-then-upper_of
returns-then-upper_of c =
    let a = c.args in
    let p = c.requires in
    let x = c.upper_of in
    let y = c.upper_of-then-e-ne0 in
    ap not (ne_eqb x.result y.result c.if-upper_of.true)
    ∙ passes_upper a.m.now a.places.now a.v.now a.h a.e p.1 p.2 c.if-e-ne0.true x.result y.result x.ensures y.ensures c.if-upper_of.true

pub place_of-requires : goal.place_of-requires
place_of-requires c = number_full _ _ _ _ c.requires.2 c.if-e-ne0.true c.number_in.ensures

pub returns-else-upper_of : goal.returns-else-upper_of
returns-else-upper_of c =
    let a = c.args in
    rw (c.holds.ensures, c.place_of.ensures, c.number_in.ensures) (passed_not a.m.now a.places.now a.v.now _ (c.requires.2.full c.if-e-ne0.true))
