-- `accounts::is_long` meets its contract.
use mathlib.Core.Path.{sym, ap, ◌∙◌}
use native.Mathlib.Omega.{arith}
use lib.ListN.{length}
use lib.Dec.{eqb}
use Rattle.text.proofs.Scan.{two_at}
use Rattle.accounts.specs.Iban.{iban_length}
use Rattle.accounts.specs.Lengths.{length_of}
use Rattle.accounts.proofs.Forms.{iban_long}
use Rattle.accounts.proofs.Lengths.{iban_letters}
use Rattle.accounts.proofs.is_long.Goals as goal

pub bounds-s-0 : goal.bounds-s-0
bounds-s-0 c =
    omega (arith, iban_long c.args.s.now c.requires)

pub bounds-s-1 : goal.bounds-s-1
bounds-s-1 c =
    omega (arith, iban_long c.args.s.now c.requires)

pub length_of-requires : goal.length_of-requires
length_of-requires c =
    iban_letters c.args.s.now c.requires

pub returns : goal.returns
unfolding iban_length
returns c =
    let s = c.args.s.now in
    ap (eqb (length s)) (c.from.ensures ∙ c.length_of.ensures ∙ ap length_of (sym (two_at s 0 (omega (arith, iban_long s c.requires)))))
