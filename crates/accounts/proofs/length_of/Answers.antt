-- `accounts::length_of` meets its contract: the entry of the two letters.
use mathlib.Core.Path.{◌∙◌, ap}
use native.Mathlib.Omega.{arith}
use Rattle.text.specs.Truth.{at}
use Rattle.accounts.specs.Lengths.{length_table}
use Rattle.accounts.proofs.Lengths.{entry_of}
use Rattle.accounts.proofs.length_of.Goals as goal

pub returns : goal.returns
returns c =
    c.entry.ensures.value
    ∙ ap (at length_table) (omega (arith, c.from.ensures, c.from-2.ensures))
    ∙ entry_of c.args.a c.args.b (omega arith) (omega arith) (omega arith) (omega arith)
