-- `swift_values::eights::eight` meets its contract.
use native.Mathlib.Omega.{arith}
use mathlib.Core.Path.{◌≡◌}
use Rattle.swift_values.proofs.Blocks.{passed_none, passed_on}
use Rattle.swift_values.proofs.eights.eight.Goals as goal

pub loop-i-init : goal.loop-i-init
loop-i-init g c = λ e. passed_none _ _ _

pub loop-i-preserved : goal.loop-i-preserved
loop-i-preserved g c = passed_on _ _ _ c.loop-i.i c.loop-i.r c.passes-r.result c.loop-i.invariant c.passes-r.ensures

pub returns : goal.returns
returns g c = λ e. let z : c.loop-i.i ≡ 8 = omega arith in rw z at (c.loop-i.invariant e)
