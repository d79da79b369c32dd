-- `recording::side_of` meets its contract.
use mathlib.Core.Path.{ap, sym}
use lib.Dec.{eqb}
use Rattle.text.specs.Truth.{either}
use Rattle.text.proofs.Truths.{tests}
use Rattle.text.specs.Quoted.{among}
use Rattle.recording.proofs.side_of.Goals as goal

pub returns-in-69-clause-named : goal.returns-in-69-clause-named
unfolding among
returns-in-69-clause-named c = search tests

pub returns-in-87-clause-named : goal.returns-in-87-clause-named
unfolding among
returns-in-87-clause-named c = ap (λ k. either (eqb k 69) (eqb k 87)) (sym c.in-87.is)

pub returns-in_default-clause-named : goal.returns-in_default-clause-named
unfolding among
returns-in_default-clause-named c = search tests
