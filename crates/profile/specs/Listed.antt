-- All fields, in the order of their numbers, and how many they are: what the code's rows and notes go by.
use Rattle.std.specs.Prelude.{ℕ, List, [], ◌∷◌}
use Rattle.profile.specs.declared.Field.{Field}
use Rattle.profile.specs.declared.Field.TheVariants.{
  MsgId,
  CreDtTm,
  NbOfTxs,
  TtlIntrBkSttlmAmt,
  IntrBkSttlmDt,
  SttlmMtd,
  InstgBic,
  InstrId,
  EndToEndId,
  TxId,
  SvcLvl,
  LclInstrm,
  SeqTp,
  IntrBkSttlmAmt,
  ChrgBr,
  ReqdColltnDt,
  MndtId,
  DtOfSgntr,
  CdtrId,
  Prtry,
  CdtrNm,
  CdtrIban,
  CdtrBic,
  DbtrNm,
  DbtrIban,
  DbtrBic,
  Ustrd,
}

abbrev pub fields : List Field
fields =
    MsgId
    ∷ CreDtTm
    ∷ NbOfTxs
    ∷ TtlIntrBkSttlmAmt
    ∷ IntrBkSttlmDt
    ∷ SttlmMtd
    ∷ InstgBic
    ∷ InstrId
    ∷ EndToEndId
    ∷ TxId
    ∷ SvcLvl
    ∷ LclInstrm
    ∷ SeqTp
    ∷ IntrBkSttlmAmt
    ∷ ChrgBr
    ∷ ReqdColltnDt
    ∷ MndtId
    ∷ DtOfSgntr
    ∷ CdtrId
    ∷ Prtry
    ∷ CdtrNm
    ∷ CdtrIban
    ∷ CdtrBic
    ∷ DbtrNm
    ∷ DbtrIban
    ∷ DbtrBic
    ∷ Ustrd
    ∷ []

abbrev pub many_fields : ℕ
many_fields = 27
