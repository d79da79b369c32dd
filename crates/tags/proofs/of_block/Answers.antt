-- `tags::of_block` meets its contract.
use native.Mathlib.Omega.{arith}
use Rattle.tags.proofs.Ends.{told_on, told_all}
use Rattle.tags.proofs.of_block.Goals as goal

pub loop-i-preserved : goal.loop-i-preserved
loop-i-preserved c =
    let l = c.loop-i in
    let k = c.key in
    (omega arith, told_on c.args.block.now l.i l.r k.result c.min-r.result (omega arith) c.told-block l.invariant.1 k.ensures.0 k.ensures.1 (λ h. omega (arith, c.min-r.ensures)) (λ h. omega (arith, c.min-r.ensures)))

pub returns : goal.returns
returns c =
    let l = c.loop-i in
    let a = c.args in
    told_all a.block.now l.i l.r (omega arith) c.told-block l.invariant.1
