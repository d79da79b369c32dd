-- `records::put_cents` meets its contract: the digits from the last one on.
use native.Mathlib.Omega.{arith}
use mathlib.Core.Path.{sym, ◌∙◌}
use Rattle.records.proofs.Digits.{due_all, due_less, due_none}
use Rattle.records.proofs.put_cents.Goals as goal

pub loop-i-init : goal.loop-i-init
loop-i-init c = due_all 184 11 c.args.cents c.args.rec.now

pub loop-i-preserved : goal.loop-i-preserved
loop-i-preserved c =
    let l = c.loop-i in
    due_less 184 l.i l.left l.rec (omega arith) (omega arith) ∙ l.invariant

pub returns : goal.returns
returns c =
    let l = c.loop-i in
    sym (due_none 184 l.i l.left l.rec (omega arith)) ∙ l.invariant
