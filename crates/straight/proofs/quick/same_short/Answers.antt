-- `straight::quick::same_short` meets its contract.
use Rattle.std.proofs.Common.{eqb-true}
use Rattle.swift_values.proofs.Lanes.{unlike}
use Rattle.straight.proofs.Words.{short_same}
use Rattle.straight.proofs.quick.same_short.Goals as goal

pub returns-then-half : goal.returns-then-half
returns-then-half c = λ e. unlike e

pub returns : goal.returns
returns c =
    λ e. short_same _ _ _ _ _ c.requires.2 c.requires.3
    c.half.result c.half-2.result c.half-3.result c.half-4.result
    c.half.ensures c.half-2.ensures c.half-3.ensures c.half-4.ensures
    c.if-half.false (eqb-true _ _ e)
