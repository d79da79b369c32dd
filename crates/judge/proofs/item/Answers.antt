-- `judge::item` meets its contract.
use mathlib.Core.Path.{◌∙◌}
use Rattle.std.proofs.lemmas.Result.{err_from_is_err_and}
use Rattle.judge.proofs.Walks.{item_there, item_none, refused_with, accepted_with, first_with, asked_with}
use Rattle.judge.proofs.item.Goals as goal

pub returns-in_err-f : goal.returns-in_err-f
returns-in_err-f c =
    let a = c.args in
    let p = err_from_is_err_and c.from_residual.result c.from_residual.ensures.1 in
    rw (p.1, p.2) (refused_with a.index.now a.m.now _ a.i c.in_err-f.ensures.0, c.find.ensures.1)

pub returns-then-f-i : goal.returns-then-f-i
returns-then-f-i c =
    let a = c.args in
    let f = c.in_ok-f.f in
    let e = c.in_ok-f.ensures.0 in
    rw c.at.ensures
    (item_none a.m.now _ _ (accepted_with a.index.now a.m.now f e) a.i c.if-f-i.true ∙ asked_with a.index.now a.m.now f e _ _, c.find.ensures.1)

pub returns : goal.returns
returns c =
    let a = c.args in
    let f = c.in_ok-f.f in
    let e = c.in_ok-f.ensures.0 in (
      c.walk.ensures
          ∙ (item_there a.m.now _ _ (accepted_with a.index.now a.m.now f e) a.i c.if-f-i.false _ c.version_of.ensures _ (first_with a.index.now a.m.now f e)
          ∙ asked_with a.index.now a.m.now f e _ _),
      c.find.ensures.1,
    )
