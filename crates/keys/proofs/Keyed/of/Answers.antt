-- `keys::Keyed::of` meets its contract.
use Rattle.keys.proofs.Whole.{keyed_accepted}
use Rattle.keys.proofs.Keyed.of.Goals as goal

pub returns : goal.returns
returns c = keyed_accepted c.args.m.now c.args.s.now _ c.make_key.ensures
