-- The kinds of values: which are amounts, and when two are one.
use Rattle.std.specs.Prelude.{ℕ, Bool, true, false, eqb}
use Rattle.codes.specs.declared.Element.{Element}
use Rattle.codes.specs.declared.Element.TheVariants.{SttlmMtd, SvcLvl, LclInstrm, SeqTp, ChrgBr, Prtry}
use Rattle.profile.specs.declared.Kind.{Kind}
use Rattle.profile.specs.declared.Kind.TheVariants.{Plain, Count, Total, Amount, Code}

-- "Tags have no attributes but the root's above and `Ccy` of the two amounts."
abbrev pub is_amount : Kind → Bool
is_amount (Plain s) = false
is_amount Count = false
is_amount Total = true
is_amount Amount = true
is_amount (Code e) = false

-- the same kind: the kinds are told apart by which of them is asked for (the header's count and total, an item's amount, a code of one element)
abbrev code_number : Element → ℕ
code_number SttlmMtd = 4
code_number SvcLvl = 5
code_number LclInstrm = 6
code_number SeqTp = 7
code_number ChrgBr = 8
code_number Prtry = 9

abbrev kind_number : Kind → ℕ
kind_number (Plain s) = 0
kind_number Count = 1
kind_number Total = 2
kind_number Amount = 3
kind_number (Code e) = code_number e

abbrev pub same_kind : Kind → Kind → Bool
same_kind j k = eqb (kind_number j) (kind_number k)
