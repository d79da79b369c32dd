-- `engine::tell` meets its contract. The loop's invariant: the first i starts stand in the part.
use mathlib.Core.Path.{◌≡◌, refl}
use native.Mathlib.Omega.{arith}
use borrow.Author.Rules.{rules}
use lib.ListN.{length}
use Rattle.profile.specs.Listed.{many_fields}
use Rattle.engine.proofs.Rows.{tell_short, tell_more, tell_end}
use Rattle.engine.proofs.tell.Goals as goal

pub returns-then-part-lt-ROW : goal.returns-then-part-lt-ROW
returns-then-part-lt-ROW c = tell_short _ _ c.if-part-lt-ROW.true

pub loop-i-init : goal.loop-i-init
loop-i-init c = record { some = omega arith; long = refl; is = refl }

pub loop-i-preserved : goal.loop-i-preserved
loop-i-preserved c =
    let l = c.loop-i in
    rw c.from.ensures (tell_more _ _ (omega arith) (search rules) l.i l.part l.invariant c.loop-i-test.true)

pub returns : goal.returns
returns c =
    let l = c.loop-i in
    let k : length c.args.n.starts ≡ many_fields = search rules in
    tell_end _ _ (omega arith) k l.i l.part l.invariant c.loop-i-test.false
