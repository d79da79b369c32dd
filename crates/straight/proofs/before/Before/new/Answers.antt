-- `straight::before::Before::new` meets its contract.
use Rattle.std.proofs.Common.{refl}
use Rattle.straight.proofs.Kept.{unknowns}
use Rattle.straight.proofs.before.Before.new.Goals as goal

pub returns : goal.returns
returns c = λ m v. record { many = refl; each = λ j h. rw (unknowns 29 j) tt; typed = tt; charged = tt; creditor = tt }
