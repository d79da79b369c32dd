-- `straight::quick::same_mid` meets its contract.
use Rattle.std.proofs.Common.{eqb-true}
use Rattle.swift_values.proofs.Lanes.{unlike}
use Rattle.straight.proofs.Words.{mid_same}
use Rattle.straight.proofs.quick.same_mid.Goals as goal

pub returns-then-word : goal.returns-then-word
returns-then-word c = λ e. unlike e

pub returns : goal.returns
returns c =
    λ e. mid_same _ _ _ _ _ c.requires.2 c.requires.3
    c.word.result c.word-2.result c.word-3.result c.word-4.result
    c.word.ensures c.word-2.ensures c.word-3.ensures c.word-4.ensures
    c.if-word.false (eqb-true _ _ e)
