-- `plain::spell_amount` meets its contract.
use native.Mathlib.Omega.{arith}
use mathlib.Core.Path.{sym}
use Rattle.plain.proofs.Values.{amount_long}
use Rattle.plain.proofs.spell_amount.Goals as goal

pub split_at_mut-first-requires : goal.split_at_mut-first-requires
split_at_mut-first-requires c = omega (arith, c.requires, amount_long _ _ _ c.parts_of.ensures)

pub copy_from_slice-requires : goal.copy_from_slice-requires
copy_from_slice-requires c = omega (arith, c.requires, amount_long _ _ _ c.parts_of.ensures, c.split_at_mut-first.ensures.back_len)

pub returns : goal.returns
returns c = rw (c.lay.ensures.whole (omega (arith, c.requires, amount_long _ _ _ c.parts_of.ensures, c.split_at_mut-first.ensures)), c.copy_from_slice.ensures.after, c.decimals.ensures) (sym c.parts_of.ensures)
