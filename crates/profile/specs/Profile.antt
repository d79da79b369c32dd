-- "Indented order, 1 each unless marked. A slash means a group with that one child." (▹ is the slash; a value has its field's name and its kind.)
use Rattle.std.specs.Prelude.{ℕ, List, [], ◌∷◌, Bool}
use Prim.Native.String.{String}
use Rattle.text.specs.Truth.{either}
use Rattle.text.specs.Quoted.{bytes, alike}
use Rattle.codes.specs.declared.Element.TheVariants as code
use Rattle.tags.specs.Tags.{plain_tag}
use Rattle.profile.specs.declared.Kind.{Kind}
use Rattle.profile.specs.declared.Kind.TheVariants.{Plain, Count, Total, Amount, Code}
use Rattle.profile.specs.declared.Simple.TheVariants.{Reference, EndToEnd, Text70, Text140, Date, Time, Bic, Bicfi, Iban, Identifier}
use Rattle.profile.specs.declared.Field.TheVariants.{
  MsgId,
  CreDtTm,
  NbOfTxs,
  TtlIntrBkSttlmAmt,
  IntrBkSttlmDt,
  SttlmMtd,
  InstgBic,
  InstrId,
  EndToEndId,
  TxId,
  SvcLvl,
  LclInstrm,
  SeqTp,
  IntrBkSttlmAmt,
  ChrgBr,
  ReqdColltnDt,
  MndtId,
  DtOfSgntr,
  CdtrId,
  Prtry,
  CdtrNm,
  CdtrIban,
  CdtrBic,
  DbtrNm,
  DbtrIban,
  DbtrBic,
  Ustrd,
}
use Rattle.profile.specs.declared.Version.{Version}
use Rattle.profile.specs.declared.Version.TheVariants.{V02, V08}
use Rattle.profile.specs.Tree.{Shape, end, Child, children, ◌of◌, ◌is◌, ◌may_be◌, ◌holds◌, ◌may_hold◌, ◌repeats◌, ◌▹◌}

-- ---- what the version decides: the name of the BIC's element, and its kind
abbrev pub bic_name : Version → String
bic_name V02 = "BIC"
bic_name V08 = "BICFI"

abbrev pub bic_kind : Version → Kind
bic_kind V02 = Plain Bic
bic_kind V08 = Plain Bicfi

-- ---- the payment type, in the header or in an item
abbrev pub type_name : String
type_name = "PmtTpInf"

unfoldable pub is_type : String → Bool
is_type n = alike (bytes type_name) (bytes n)

abbrev pub payment_type : List Child
payment_type =
    "SvcLvl" ▹ "Cd" is SvcLvl of Code code.SvcLvl
    ∷ "LclInstrm" ▹ "Cd" is LclInstrm of Code code.LclInstrm
    ∷ "SeqTp" is SeqTp of Code code.SeqTp
    ∷ []

-- ---- the header
abbrev pub header : Version → List Child
header v =
    "MsgId" is MsgId of Plain Reference
    ∷ "CreDtTm" is CreDtTm of Plain Time
    ∷ "NbOfTxs" is NbOfTxs of Count
    ∷ "TtlIntrBkSttlmAmt" is TtlIntrBkSttlmAmt of Total
    ∷ "IntrBkSttlmDt" is IntrBkSttlmDt of Plain Date
    ∷ "SttlmInf" ▹ "SttlmMtd" is SttlmMtd of Code code.SttlmMtd
    ∷ type_name may_hold payment_type
    ∷ "InstgAgt" ▹ "FinInstnId" ▹ bic_name v is InstgBic of bic_kind v
    ∷ []

-- ---- an item
abbrev pub item : Version → List Child
item v =
    "PmtId" holds
    ("InstrId" may_be InstrId of Plain Reference
    ∷ "EndToEndId" is EndToEndId of Plain EndToEnd
    ∷ "TxId" is TxId of Plain Reference
    ∷ [])
    ∷ type_name may_hold payment_type
    ∷ "IntrBkSttlmAmt" is IntrBkSttlmAmt of Amount
    ∷ "ChrgBr" is ChrgBr of Code code.ChrgBr
    ∷ "ReqdColltnDt" is ReqdColltnDt of Plain Date
    ∷ "DrctDbtTx" holds
    ("MndtRltdInf" holds
    ("MndtId" is MndtId of Plain Reference
    ∷ "DtOfSgntr" is DtOfSgntr of Plain Date
    ∷ [])
    ∷ "CdtrSchmeId" ▹ "Id" ▹ "PrvtId" ▹ "Othr" holds
    ("Id" is CdtrId of Plain Identifier
    ∷ "SchmeNm" ▹ "Prtry" is Prtry of Code code.Prtry
    ∷ [])
    ∷ [])
    ∷ "Cdtr" ▹ "Nm" is CdtrNm of Plain Text70
    ∷ "CdtrAcct" ▹ "Id" ▹ "IBAN" is CdtrIban of Plain Iban
    ∷ "CdtrAgt" ▹ "FinInstnId" ▹ bic_name v is CdtrBic of bic_kind v
    ∷ "Dbtr" ▹ "Nm" is DbtrNm of Plain Text70
    ∷ "DbtrAcct" ▹ "Id" ▹ "IBAN" is DbtrIban of Plain Iban
    ∷ "DbtrAgt" ▹ "FinInstnId" ▹ bic_name v is DbtrBic of bic_kind v
    ∷ "RmtInf" may_hold ("Ustrd" is Ustrd of Plain Text140 ∷ [])
    ∷ []

-- ---- the names of the groups above them
abbrev pub bulk_name : String
bulk_name = "FIToFICstmrDrctDbt"

abbrev pub header_name : String
header_name = "GrpHdr"

abbrev pub item_name : String
item_name = "DrctDbtTxInf"

-- what the header holds, and what an item holds, each up to its end
unfoldable pub in_header : Version → Shape
in_header v = children (header v) (end header_name)

unfoldable pub in_item : Version → Shape
in_item v = children (item v) (end item_name)

-- what stands in a message between its root tag and the end of its root
unfoldable pub profile : Version → Shape
profile v =
    (bulk_name holds
    (header_name holds header v
    ∷ item_name repeats item v
    ∷ [])) (end "Document")

-- the count's start tag; and a start tag of a value that is collapsed
abbrev pub count_tag : List ℕ
count_tag = plain_tag "NbOfTxs"

unfoldable pub words_tag : List ℕ → Bool
words_tag t = either (alike (plain_tag "EndToEndId") t) (either (alike (plain_tag "Nm") t) (alike (plain_tag "Ustrd") t))
