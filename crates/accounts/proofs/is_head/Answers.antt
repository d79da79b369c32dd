-- `accounts::is_head` meets its contract.
use mathlib.Core.Path.{refl}
use Rattle.text.specs.Classes.{in_class}
use Rattle.text.proofs.Truths.{both_then, both_else}
use Rattle.accounts.specs.Head.{head}
use Rattle.accounts.proofs.is_head.Goals as goal

pub returns-then-all_in : goal.returns-then-all_in
unfolding head in_class
returns-then-all_in c = both_then c.all_in.ensures c.if-all_in.true c.all_in-then-all_in.ensures

pub returns-else-all_in : goal.returns-else-all_in
unfolding head in_class
returns-else-all_in c = both_else c.all_in.ensures _ c.if-all_in.false refl
