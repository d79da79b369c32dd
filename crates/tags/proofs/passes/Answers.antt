-- `tags::passes` meets its contract.
use native.Mathlib.Omega.{arith}
use Rattle.text.specs.Classes.{in_class}
use Rattle.tags.proofs.Looks.{capitals}
use Rattle.tags.proofs.passes.Goals as goal

pub returns-in_default : goal.returns-in_default
unfolding in_class
returns-in_default c = rw (capitals c.args.i (λ e. omega arith) (λ e. omega arith)) c.is_in.ensures
