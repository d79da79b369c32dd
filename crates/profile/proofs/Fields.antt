-- A field's number is its place among the fields, so two fields of one number are one.
use mathlib.Core.Path.{◌≡◌, refl, sym, ap, ◌∙◌}
use mathlib.Core.Bool.{true}
use Prim.Native.Nat.{ℕ, ◌<◌}
use native.Mathlib.Omega.{arith}
use borrow.Author.Tests.{eqb-true}
use lib.ListN.{get_or}
use Rattle.profile.specs.declared.Field.{Field}
use Rattle.profile.specs.declared.Field.TheVariants.{MsgId, CreDtTm, NbOfTxs, TtlIntrBkSttlmAmt, IntrBkSttlmDt, SttlmMtd, InstgBic, InstrId, EndToEndId, TxId, SvcLvl, LclInstrm, SeqTp, IntrBkSttlmAmt, ChrgBr, ReqdColltnDt, MndtId, DtOfSgntr, CdtrId, Prtry, CdtrNm, CdtrIban, CdtrBic, DbtrNm, DbtrIban, DbtrBic, Ustrd}
use Rattle.profile.specs.Fields.{field_number, same_field}
use Rattle.profile.specs.Listed.{fields, many_fields}

place : (f : Field) → get_or fields (field_number f) MsgId ≡ f
place MsgId = refl
place CreDtTm = refl
place NbOfTxs = refl
place TtlIntrBkSttlmAmt = refl
place IntrBkSttlmDt = refl
place SttlmMtd = refl
place InstgBic = refl
place InstrId = refl
place EndToEndId = refl
place TxId = refl
place SvcLvl = refl
place LclInstrm = refl
place SeqTp = refl
place IntrBkSttlmAmt = refl
place ChrgBr = refl
place ReqdColltnDt = refl
place MndtId = refl
place DtOfSgntr = refl
place CdtrId = refl
place Prtry = refl
place CdtrNm = refl
place CdtrIban = refl
place CdtrBic = refl
place DbtrNm = refl
place DbtrIban = refl
place DbtrBic = refl
place Ustrd = refl

pub number_below : (f : Field) → field_number f < many_fields
number_below MsgId = omega arith
number_below CreDtTm = omega arith
number_below NbOfTxs = omega arith
number_below TtlIntrBkSttlmAmt = omega arith
number_below IntrBkSttlmDt = omega arith
number_below SttlmMtd = omega arith
number_below InstgBic = omega arith
number_below InstrId = omega arith
number_below EndToEndId = omega arith
number_below TxId = omega arith
number_below SvcLvl = omega arith
number_below LclInstrm = omega arith
number_below SeqTp = omega arith
number_below IntrBkSttlmAmt = omega arith
number_below ChrgBr = omega arith
number_below ReqdColltnDt = omega arith
number_below MndtId = omega arith
number_below DtOfSgntr = omega arith
number_below CdtrId = omega arith
number_below Prtry = omega arith
number_below CdtrNm = omega arith
number_below CdtrIban = omega arith
number_below CdtrBic = omega arith
number_below DbtrNm = omega arith
number_below DbtrIban = omega arith
number_below DbtrBic = omega arith
number_below Ustrd = omega arith

pub same_field_lem : (f g : Field) → same_field f g ≡ true → f ≡ g
same_field_lem f g e = sym (place f) ∙ (ap (λ (i : ℕ). get_or fields i MsgId) (eqb-true (field_number f) (field_number g) e) ∙ place g)
