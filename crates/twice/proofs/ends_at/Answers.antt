-- `twice::ends_at` meets its contract.
use Rattle.std.proofs.Common.{arith, ◌∙◌}
use borrow.Author.Tests.{eq-eqb, le-ltb}
use Rattle.twice.proofs.Values.{ends_short, ends_last, ends_next}
use Rattle.twice.proofs.ends_at.Goals as goal

pub returns-then-s-n : goal.returns-then-s-n
returns-then-s-n c = eq-eqb _ _ c.if-s-n.true ∙ ends_last _ _ c.if-s-n.true

pub returns-then-n-s : goal.returns-then-n-s
returns-then-n-s c = ends_next _ _ c.if-n-s.true

pub returns-else-n-s : goal.returns-else-n-s
returns-else-n-s c = le-ltb _ _ c.if-n-s.false ∙ ends_short c.args.s.now c.args.n (omega arith)
