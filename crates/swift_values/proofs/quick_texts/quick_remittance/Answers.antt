-- `swift_values::quick_texts::quick_remittance` meets its contract.
use native.Mathlib.Omega.{arith}
use Rattle.words.specs.declared.Field.TheVariants.{Ustrd}
use Rattle.profile.specs.declared.Simple.TheVariants.{Text140}
use Rattle.swift_values.proofs.Values.{run_less, text_stands, remittance_is}
use Rattle.swift_values.proofs.quick_texts.quick_remittance.Goals as goal

pub returns-then-ends_like : goal.returns-then-ends_like
returns-then-ends_like g c =
    let h = c.room.ensures c.if-not-room.false in
    let l = c.ends_like.ensures c.if-ends_like.true in
    let n = c.long_run-n in
    let r = run_less _ _ _ _ c.args.like n.ensures.1 l.0 in
    text_stands Ustrd c.args.m.now c.args.at c.args.like (omega arith) r l.2 h.0 l.1 (omega arith) c.if-m-at-eq32.false Text140 (remittance_is _)

pub returns-then-ended : goal.returns-then-ended
returns-then-ended g c =
    let h = c.room.ensures c.if-not-room.false in
    let e = c.ended.ensures c.if-ended.true in
    let n = c.long_run-n in
    text_stands Ustrd c.args.m.now c.args.at n.result (omega arith) n.ensures.1 e.1 h.0 e.0 (omega arith) c.if-m-at-eq32.false Text140 (remittance_is _)
