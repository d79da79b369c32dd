-- `accounts::entry` meets its contract: the constant is the table, by computation.
use Rattle.accounts.specs.Lengths.{lengths, length_of, length_table}
use mathlib.Core.Path.{refl}
use Rattle.accounts.proofs.Lengths.{entry_fits}
use borrow.Author.Rules.{rules}
use Rattle.accounts.proofs.entry.Goals as goal

pub returns : goal.returns
unfolding length_table length_of lengths
returns c = record { value = refl; fact = entry_fits c.args.k (search rules) }
