-- `calendar::is_sign` meets its contract.
use Rattle.std.proofs.Common.{arith, sym, ap}
use mathlib.Core.Logic.{inl, inr}
use borrow.Author.Tests.{ne_eqb}
use Rattle.text.specs.Quoted.{among}
use Rattle.calendar.proofs.is_sign.Goals as goal

pub returns-in-43 : goal.returns-in-43
unfolding among
returns-in-43 c = elim c.in-43.is [ inl e ↦ sym (ap (among "+ -") e) | inr e ↦ sym (ap (among "+ -") e) ]

pub returns-in_default : goal.returns-in_default
unfolding among
returns-in_default c = simp (ne_eqb c.args.c 43 (grind arith), ne_eqb c.args.c 45 (grind arith))
