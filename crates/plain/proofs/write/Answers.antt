-- `plain::write` meets its contract.
use native.Mathlib.Omega.{arith}
use Rattle.std.proofs.lemmas.Result.{err_from_is_err_and}
use Rattle.plain.proofs.Answers.{not_over, no_room, has_room, refused_with, judged_with_lem, wrote_with}
use Rattle.plain.proofs.write.Goals as goal

pub returns-in_err-judge : goal.returns-in_err-judge
returns-in_err-judge c =
    let p = err_from_is_err_and c.from_residual.result c.from_residual.ensures.1 in
    rw (p.1, p.2) (refused_with c.args.index.now c.args.m.now c.args.area.now c.in_err-judge.field-0.0 c.in_err-judge.ensures.0, c.judge.ensures.1)

pub measure-n-requires : goal.measure-n-requires
measure-n-requires c =
    let x = c.args in
    let a = c.in_ok-judge.field-0 in
    not_over x.m.now x.area.now a (judged_with_lem x.index.now x.m.now x.area.now a c.in_ok-judge.ensures.0) c.body_of-s.result.now c.body_of-s.ensures

pub overflow_add-n : goal.overflow_add-n
overflow_add-n c =
    let x = c.args in
    let a = c.in_ok-judge.field-0 in
    omega (arith, c.measure-n.ensures, not_over x.m.now x.area.now a (judged_with_lem x.index.now x.m.now x.area.now a c.in_ok-judge.ensures.0) c.body_of-s.result.now c.body_of-s.ensures)

pub returns-then-area-n : goal.returns-then-area-n
returns-then-area-n c =
    let x = c.args in
    let a = c.in_ok-judge.field-0 in
    let j = judged_with_lem x.index.now x.m.now x.area.now a c.in_ok-judge.ensures.0 in
    rw c.at.ensures
    (wrote_with x.index.now x.m.now x.area.now a c.in_ok-judge.ensures.0 _ (no_room x.m.now x.area.now a j c.body_of-s.result.now c.body_of-s.ensures _ c.measure-n.ensures c.if-area-n.true), c.judge.ensures.1)

pub returns : goal.returns
returns c =
    let x = c.args in
    let a = c.in_ok-judge.field-0 in
    let j = judged_with_lem x.index.now x.m.now x.area.now a c.in_ok-judge.ensures.0 in (
      wrote_with x.index.now x.m.now x.area.now a c.in_ok-judge.ensures.0 _
          (has_room x.m.now x.area.now a j c.body_of-s.result.now c.body_of-s.ensures _ c.measure-n.ensures c.if-area-n.false c.put.new.area c.put.ensures),
      c.judge.ensures.1,
    )
