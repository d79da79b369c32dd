-- `notes::note` meets its contract.
use mathlib.Core.Path.{◌∙◌, ap}
use Rattle.std.proofs.Common.{rules}
use Rattle.std.proofs.lemmas.Result.{err_from_is_err_and, MatchResult-weaker}
use Rattle.reading.specs.Noted.{on}
use Rattle.notes.proofs.Notings.{refused_kind, kept_on, kept_stop}
use Rattle.notes.proofs.note.Goals as goal

pub returns-in_err-map_err : goal.returns-in_err-map_err
returns-in_err-map_err c =
    let a = c.args in
    let j = c.judge_value in
    let m = c.map_err in
    let p = err_from_is_err_and c.from_residual.result c.from_residual.ensures.1 in
    rw (p.1, p.2)
    (refused_kind a.k a.f a.v.now a.st.at a.st.notes j.result j.ensures m.result (MatchResult-weaker j.result m.ensures.cases (λ x h. h) (λ w h. search rules))
    _ c.in_err-map_err.was)

pub returns-in_err-kept : goal.returns-in_err-kept
returns-in_err-kept c =
    let a = c.args in
    let j = c.judge_value in
    let m = c.map_err in
    let p = err_from_is_err_and c.from_residual-in_err-kept.result c.from_residual-in_err-kept.ensures.1 in
    rw (p.1, p.2)
    (kept_stop a.k a.f a.v.now a.st.at a.st.notes j.result j.ensures m.result (MatchResult-weaker j.result m.ensures.cases (λ x h. h) (λ w h. search rules))
    _ c.in_ok-map_err.was _ c.unwrap_or-worth.ensures _ _ c.in_err-kept.ensures)

pub returns : goal.returns
returns c =
    let a = c.args in
    let j = c.judge_value in
    let m = c.map_err in
    ap on c.with_start.ensures
    ∙ kept_on a.k a.f a.v.now a.st.at a.st.notes j.result j.ensures m.result (MatchResult-weaker j.result m.ensures.cases (λ x h. h) (λ w h. search rules))
    _ c.in_ok-map_err.was _ c.unwrap_or-worth.ensures c.in_ok-kept.kept c.in_ok-kept.ensures
