-- The legs of an item, in the order of the profile. An InstrId, a payment type or a remittance text at place 0 is none.
use Rattle.std.specs.Prelude.{◌≡◌, ℕ, zero, suc, ◌+◌, ◌<◌, ◌≤◌, Bool, true, false, Option, Some, List, [], ◌∷◌, ◌++◌}
use Rattle.money.specs.declared.Range as Range
use Rattle.money.specs.Amount.{most}
use Rattle.codes.specs.declared.Element.TheVariants as code
use Rattle.profile.specs.declared.Kind.TheVariants.{Plain, Amount, Code}
use Rattle.profile.specs.declared.Simple.TheVariants.{Reference, EndToEnd, Text70, Text140, Date, Iban, Identifier}
use Rattle.profile.specs.declared.Field.{Field}
use Rattle.profile.specs.declared.Field.TheVariants.{
  InstrId,
  EndToEndId,
  TxId,
  SvcLvl,
  LclInstrm,
  SeqTp,
  IntrBkSttlmAmt,
  ChrgBr,
  ReqdColltnDt,
  MndtId,
  DtOfSgntr,
  CdtrId,
  Prtry,
  CdtrNm,
  CdtrIban,
  CdtrBic,
  DbtrNm,
  DbtrIban,
  DbtrBic,
  Ustrd,
}
use Rattle.profile.specs.declared.Version.{Version}
use Rattle.profile.specs.declared.Version.TheVariants.{V02, V08}
use Rattle.profile.specs.Profile.{bic_kind}
use Rattle.notes.specs.declared.Notes.{Notes}
use Rattle.notes.specs.Notes.{started, may_follow, unsaid, said_by}
use Rattle.straight.specs.declared.between.Side.{Side}
use Rattle.straight.specs.declared.between.Side.TheVariants.{Creditor, Debtor}
use Rattle.straight.specs.declared.before.Codes.{Codes}
use Rattle.straight.specs.declared.before.CreditorSide.{CreditorSide}
use Rattle.straight.specs.declared.pieces.Front.{Front}
use Rattle.straight.specs.declared.pieces.Back.{Back}
use Rattle.straight.specs.declared.pieces.Item.{Item}
use Rattle.straight.specs.Runs.{tags_at}
use Rattle.straight.specs.Ways.{Leg, tags, holds}

-- up to the value of EndToEndId
abbrev pub begun_legs : ℕ → List Leg
begun_legs zero = tags (tags_at 1) ∷ []
begun_legs (suc p) = tags (tags_at 0) ∷ holds (Plain Reference) InstrId (suc p) 0 ∷ tags (tags_at 2) ∷ []

-- up to the value of TxId
abbrev pub ids_legs : ℕ → ℕ → List Leg
ids_legs i e = begun_legs i ++ (holds (Plain EndToEnd) EndToEndId e 0 ∷ tags (tags_at 3) ∷ [])

-- the payment type from its first value on, up to the value of the amount
abbrev pub codes_legs : ℕ → ℕ → ℕ → ℕ → List Leg
codes_legs a b c i =
    holds (Code code.SvcLvl) SvcLvl a 0 ∷ tags (tags_at 6) ∷ holds (Code code.LclInstrm) LclInstrm b i ∷ tags (tags_at 7) ∷ holds (Code code.SeqTp) SeqTp c 0 ∷ tags (tags_at 8) ∷ []

-- from behind TxId: the payment type
abbrev pub typed_legs : ℕ → ℕ → ℕ → ℕ → List Leg
typed_legs a b c i = tags (tags_at 4) ∷ codes_legs a b c i

-- TxId, and the payment type where it stands in the item
abbrev pub type_legs : ℕ → ℕ → ℕ → ℕ → ℕ → List Leg
type_legs t zero b c i = holds (Plain Reference) TxId t 0 ∷ tags (tags_at 5) ∷ []
type_legs t (suc a) b c i = holds (Plain Reference) TxId t 0 ∷ typed_legs (suc a) b c i

-- from behind the amount, up to the value of MndtId
abbrev pub charged_legs : ℕ → ℕ → List Leg
charged_legs a b = tags (tags_at 9) ∷ holds (Code code.ChrgBr) ChrgBr a 0 ∷ tags (tags_at 10) ∷ holds (Plain Date) ReqdColltnDt b 0 ∷ tags (tags_at 11) ∷ []

-- the amount, up to the value of MndtId
abbrev pub terms_legs : ℕ → ℕ → ℕ → ℕ → List Leg
terms_legs p cents a b = holds Amount IntrBkSttlmAmt p cents ∷ charged_legs a b

-- up to behind DtOfSgntr
abbrev pub mandate_legs : ℕ → ℕ → List Leg
mandate_legs p a = holds (Plain Reference) MndtId p 0 ∷ tags (tags_at 12) ∷ holds (Plain Date) DtOfSgntr a 0 ∷ []

-- up to the creditor's name
abbrev pub scheme_legs : ℕ → ℕ → List Leg
scheme_legs p a = holds (Plain Identifier) CdtrId p 0 ∷ tags (tags_at 14) ∷ holds (Code code.Prtry) Prtry a 0 ∷ tags (tags_at 15) ∷ []

-- a party's name and account, up to the value of its agent's BIC
abbrev pub name_of : Side → Field
name_of Creditor = CdtrNm
name_of Debtor = DbtrNm

abbrev pub iban_of : Side → Field
iban_of Creditor = CdtrIban
iban_of Debtor = DbtrIban

-- of two runs that differ by the version, that of .08 comes next
abbrev pub by_version : ℕ → Version → ℕ
by_version j V02 = j
by_version j V08 = j + 1

abbrev pub to_iban : Side → ℕ
to_iban Creditor = 16
to_iban Debtor = 21

abbrev pub to_bic : Side → Version → ℕ
to_bic Creditor v = by_version 17 v
to_bic Debtor v = by_version 22 v

abbrev pub party_legs : Side → Version → ℕ → ℕ → List Leg
party_legs s v p a =
    holds (Plain Text70) (name_of s) p 0 ∷ tags (tags_at (to_iban s)) ∷ holds (Plain Iban) (iban_of s) a 0 ∷ tags (tags_at (to_bic s v)) ∷ []

-- the creditor's BIC, up to the debtor's name
abbrev pub to_debtor : Version → ℕ
to_debtor v = by_version 19 v

abbrev pub agent_legs : Version → ℕ → List Leg
agent_legs v p = holds (bic_kind v) CdtrBic p 0 ∷ tags (tags_at (to_debtor v)) ∷ []

-- from behind DtOfSgntr up to the debtor's name
abbrev pub creditor_legs : Version → ℕ → ℕ → ℕ → ℕ → ℕ → List Leg
creditor_legs v a b c d e = tags (tags_at 13) ∷ (scheme_legs a b ++ (party_legs Creditor v c d ++ agent_legs v e))

-- the debtor's BIC, and the remittance text, up to behind the item
abbrev pub to_text : Version → ℕ
to_text v = by_version 24 v

abbrev pub to_end : Version → ℕ
to_end v = by_version 26 v

abbrev pub last_legs : Version → ℕ → ℕ → List Leg
last_legs v p zero = holds (bic_kind v) DbtrBic p 0 ∷ tags (tags_at (to_end v)) ∷ []
last_legs v p (suc a) = holds (bic_kind v) DbtrBic p 0 ∷ tags (tags_at (to_text v)) ∷ holds (Plain Text140) Ustrd (suc a) 0 ∷ tags (tags_at 28) ∷ []

-- a whole item: up to the value of MndtId, and from there on
abbrev pub front_legs : Front → List Leg
front_legs r = ids_legs r.first r.ends ++ (type_legs r.tx r.level r.service r.sequence r.listed ++ terms_legs r.amount r.cents r.charge r.collected)

abbrev pub back_legs : Version → ℕ → Back → List Leg
back_legs v p r =
    mandate_legs p r.signed ++ (creditor_legs v r.identifier r.scheme r.creditor r.account r.agent
    ++ (party_legs Debtor v r.debtor r.debited ++ last_legs v r.bank r.text))

abbrev pub item_legs : Version → Item → List Leg
item_legs v r = front_legs r.front ++ back_legs v r.front.at r.back

-- ---- places within a message of n bytes
pub record CodesWithin (n : ℕ) (r : Codes) : Type 0 where
  pub end : r.at ≤ n
  pub level : r.level ≤ n
  pub service : r.service ≤ n
  pub sequence : r.sequence ≤ n
  pub listed : r.listed ≤ 4

pub record SideWithin (n : ℕ) (r : CreditorSide) : Type 0 where
  pub end : r.at ≤ n
  pub identifier : r.identifier ≤ n
  pub scheme : r.scheme ≤ n
  pub name : r.name ≤ n
  pub account : r.account ≤ n
  pub agent : r.agent ≤ n

pub record FrontWithin (n : ℕ) (r : Front) : Type 0 where
  pub end : r.at ≤ n
  pub instr : r.first ≤ n
  pub ends : r.ends ≤ n
  pub tx : r.tx ≤ n
  pub level : r.level ≤ n
  pub service : r.service ≤ n
  pub sequence : r.sequence ≤ n
  pub listed : r.listed ≤ 4
  pub amount : r.amount ≤ n
  pub cents : r.cents ≤ most Range.TheVariants.Item
  pub charge : r.charge ≤ n
  pub collected : r.collected ≤ n

pub record BackWithin (n : ℕ) (r : Back) : Type 0 where
  pub end : r.at ≤ n
  pub signed : r.signed ≤ n
  pub identifier : r.identifier ≤ n
  pub scheme : r.scheme ≤ n
  pub creditor : r.creditor ≤ n
  pub account : r.account ≤ n
  pub agent : r.agent ≤ n
  pub debtor : r.debtor ≤ n
  pub debited : r.debited ≤ n
  pub bank : r.bank ≤ n
  pub text : r.text ≤ n

-- ---- whether the payment type stands in an item
abbrev pub stood : ℕ → Bool
stood zero = false
stood (suc a) = true

-- what was said of the payment type is not said again, and a LclInstrm that stands in the item may follow the service of the items before
pub record Follows (said : Option Bool) (before : Option ℕ) (a i : ℕ) : Type 0 where
  pub new : unsaid said (stood a) ≡ true
  pub fits : 0 < a → may_follow before i ≡ true

abbrev pub Followed : Option Bool → Option ℕ → Front → Type 0
Followed said before r = Follows said before r.level r.listed

-- ---- what an item adds to the notes: its cents, its service, what is said of the payment type, and where its values begin
abbrev pub maybe_from : Field → ℕ → List ℕ → List ℕ
maybe_from f zero l = l
maybe_from f (suc p) l = started f (suc p) l

abbrev pub type_from : ℕ → Front → List ℕ → List ℕ
type_from zero r l = l
type_from (suc a) r l = started SeqTp r.sequence (started LclInstrm r.service (started SvcLvl (suc a) l))

abbrev pub service_from : ℕ → ℕ → Option ℕ → Option ℕ
service_from zero i b = b
service_from (suc a) i b = Some i

abbrev pub front_from : ℕ → ℕ → Front → List ℕ → List ℕ
front_from i a r l =
    started ReqdColltnDt r.collected (started ChrgBr r.charge (started IntrBkSttlmAmt r.amount
    (type_from a r (started TxId r.tx (started EndToEndId r.ends (maybe_from InstrId i l))))))

abbrev pub back_from : ℕ → ℕ → Back → List ℕ → List ℕ
back_from p x r l =
    maybe_from Ustrd x (started DbtrBic r.bank (started DbtrIban r.debited (started DbtrNm r.debtor (started CdtrBic r.agent (started CdtrIban r.account
    (started CdtrNm r.creditor (started Prtry r.scheme (started CdtrId r.identifier (started DtOfSgntr r.signed (started MndtId p l))))))))))

-- by where InstrId, the payment type and the remittance text begin
abbrev pub noted_by : Option Bool → ℕ → ℕ → ℕ → Item → Notes → Notes
noted_by s i a x r n = record {
  count = n.count;
  first = n.first;
  sum = n.sum + r.front.cents;
  cents = r.front.cents;
  number = n.number;
  numberat = n.numberat;
  total = n.total;
  totalat = n.totalat;
  typed = said_by s (stood a);
  service = service_from a r.front.listed n.service;
  starts = back_from r.front.at x r.back (front_from i a r.front n.starts);
}

abbrev pub item_noted : Option Bool → ℕ → ℕ → Item → Notes → Notes
item_noted s i x r n = noted_by s i r.front.level x r n
