-- `straight::quick::same_long` meets its contract.
use Rattle.std.proofs.Common.{arith}
use Rattle.swift_values.proofs.Lanes.{unlike}
use Rattle.straight.proofs.Words.{match_join, match_none}
use Rattle.straight.proofs.quick.same_long.Goals as goal

pub loop-i-init : goal.loop-i-init
loop-i-init c = (omega arith, match_none _ _ _ _)

pub returns-then-not-same_mid : goal.returns-then-not-same_mid
returns-then-not-same_mid c = λ e. unlike e

pub loop-i-preserved : goal.loop-i-preserved
loop-i-preserved c = (omega arith, match_join _ _ _ _ c.loop-i.i c.loop-i.i 16 c.loop-i.invariant.1 (c.same_mid.ensures c.if-not-same_mid.false) (omega arith) _ (omega arith))

pub returns : goal.returns
returns c = λ e. match_join _ _ _ _ _ c.loop-i.i 16 c.loop-i.invariant.1 (c.same_mid-2.ensures e) (omega arith) _ (omega arith)
