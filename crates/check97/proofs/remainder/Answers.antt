-- `check97::remainder` meets its contract.
use native.Mathlib.Omega.{arith}
use mathlib.Core.Path.{refl, ◌∙◌}
use Rattle.check97.proofs.Modulo.{spelled_next, spelled_end}
use Rattle.check97.proofs.remainder.Goals as goal

pub loop-c-init : goal.loop-c-init
loop-c-init c = rw c.of-g.ensures refl

pub loop-c-preserved : goal.loop-c-preserved
loop-c-preserved c =
    let l = c.loop-c in
    spelled_next l.g c.args.s.now l.c-index c.step-g.result (omega arith) c.step-g.ensures ∙ l.invariant

pub returns : goal.returns
returns c =
    let l = c.loop-c in
    c.taken.ensures ∙ spelled_end l.g c.args.s.now l.c-index (omega arith) ∙ l.invariant
