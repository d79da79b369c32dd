-- `straight::quick::texts` meets its contract.
use Rattle.std.proofs.Common.{refl}
use Rattle.straight.specs.Runs.{text_at}
use Rattle.straight.proofs.Runs.{texts_tested}
use Rattle.straight.proofs.quick.texts.Goals as goal

pub returns : goal.returns
unfolding text_at
returns c = texts_tested _ refl tt
