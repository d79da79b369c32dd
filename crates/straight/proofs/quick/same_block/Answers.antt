-- `straight::quick::same_block` meets its contract. The loop's invariant: where nothing differs so far, the bytes before i are the same.
use Rattle.std.proofs.Common.{◌≡◌, arith, eqb-true}
use Rattle.straight.proofs.Words.{match_none, match_one}
use Rattle.straight.proofs.quick.same_block.Goals as goal

pub loop-i-init : goal.loop-i-init
loop-i-init c = (omega arith, λ e. match_none _ _ _ _)

pub loop-i-preserved : goal.loop-i-preserved
loop-i-preserved c =
    let l = c.loop-i in
    let x = c.apart-d in
    (omega arith, λ e. match_one _ _ _ _ l.i l.d x.result l.invariant.1 x.ensures e)

pub returns : goal.returns
returns c =
    let l = c.loop-i in
    let z : l.i ≡ 64 = omega (arith, l.invariant.0) in
    λ e. rw z at (l.invariant.1 (eqb-true _ _ e))
