-- Every element that holds a value has a name of its own, also where its tag is another element's too. The names are numbered in the order of the profile.
use Rattle.std.specs.Prelude.{ℕ, Bool, eqb}
use Rattle.profile.specs.declared.Field.{Field}
use Rattle.profile.specs.declared.Field.TheVariants.{
  MsgId,
  CreDtTm,
  NbOfTxs,
  TtlIntrBkSttlmAmt,
  IntrBkSttlmDt,
  SttlmMtd,
  InstgBic,
  InstrId,
  EndToEndId,
  TxId,
  SvcLvl,
  LclInstrm,
  SeqTp,
  IntrBkSttlmAmt,
  ChrgBr,
  ReqdColltnDt,
  MndtId,
  DtOfSgntr,
  CdtrId,
  Prtry,
  CdtrNm,
  CdtrIban,
  CdtrBic,
  DbtrNm,
  DbtrIban,
  DbtrBic,
  Ustrd,
}

abbrev pub field_number : Field → ℕ
field_number MsgId = 0
field_number CreDtTm = 1
field_number NbOfTxs = 2
field_number TtlIntrBkSttlmAmt = 3
field_number IntrBkSttlmDt = 4
field_number SttlmMtd = 5
field_number InstgBic = 6
field_number InstrId = 7
field_number EndToEndId = 8
field_number TxId = 9
field_number SvcLvl = 10
field_number LclInstrm = 11
field_number SeqTp = 12
field_number IntrBkSttlmAmt = 13
field_number ChrgBr = 14
field_number ReqdColltnDt = 15
field_number MndtId = 16
field_number DtOfSgntr = 17
field_number CdtrId = 18
field_number Prtry = 19
field_number CdtrNm = 20
field_number CdtrIban = 21
field_number CdtrBic = 22
field_number DbtrNm = 23
field_number DbtrIban = 24
field_number DbtrBic = 25
field_number Ustrd = 26

-- the same field
abbrev pub same_field : Field → Field → Bool
same_field f g = eqb (field_number f) (field_number g)
