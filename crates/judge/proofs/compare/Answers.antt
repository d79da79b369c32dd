-- `judge::compare` meets its contract.
use Rattle.judge.proofs.Ends.{count_other, total_other, all_right}
use Rattle.judge.proofs.compare.Goals as goal

pub returns-then-n : goal.returns-then-n
returns-then-n c = rw c.at.ensures (count_other c.args.n c.if-n.true)

pub returns-then-n-2 : goal.returns-then-n-2
returns-then-n-2 c = rw c.at-then-n-2.ensures (total_other c.args.n c.if-n.false c.if-n-2.true)

pub returns : goal.returns
returns c = all_right c.args.n c.if-n.false c.if-n-2.false
