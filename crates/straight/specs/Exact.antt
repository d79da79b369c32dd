-- A value's element alone, by its two tags; what the exact readers answer.
use Rattle.std.specs.Prelude.{◌≡◌, ℕ, ◌+◌, Bool, true, false, List, ◌++◌, length, drop}
use Rattle.text.specs.Truth.{pick}
use Rattle.tags.specs.declared.Look.TheVariants.{Whole}
use Rattle.tags.specs.Tags.{skipped, look, on_look, exactly, plain_tag, amount_tag, end_tag, currency}
use Rattle.codes.specs.declared.Element.TheVariants as code
use Rattle.profile.specs.declared.Kind.{Kind}
use Rattle.profile.specs.declared.Kind.TheVariants.{Plain, Count, Total, Amount, Code}
use Rattle.profile.specs.declared.Simple.TheVariants.{Reference, Text70, Text140, Date, Time, Iban, Identifier}
use Rattle.profile.specs.declared.Field.{Field}
use Rattle.profile.specs.declared.Field.TheVariants.{
  MsgId,
  CreDtTm,
  NbOfTxs,
  TtlIntrBkSttlmAmt,
  IntrBkSttlmDt,
  SttlmMtd,
  InstgBic,
  SvcLvl,
  LclInstrm,
  SeqTp,
  IntrBkSttlmAmt,
  ChrgBr,
  ReqdColltnDt,
  MndtId,
  DtOfSgntr,
  CdtrId,
  Prtry,
  CdtrNm,
  CdtrIban,
  CdtrBic,
  DbtrNm,
  DbtrIban,
  DbtrBic,
  Ustrd,
}
use Rattle.profile.specs.declared.Version.{Version}
use Rattle.profile.specs.Profile.{bic_name, bic_kind, type_name, bulk_name, header_name, item_name, in_header, in_item}
use Rattle.reading.specs.Trace.{there, absent, ◌at◌, Trace, met, up_to, fault, and_then, priced, again, trace}
use Rattle.reading.specs.Noted.{Reading, on, stop, onward, Ended}
use Rattle.notes.specs.declared.Notes.{Notes}
use Rattle.notes.specs.Steps.{reads, Room, Fine}
use Rattle.profile.specs.Tree.{once, many, Shape, end, group}
use Rattle.items.specs.Alone.{item_tag, item_body}
use Rattle.straight.specs.Pieces.{pmt_id}
use Rattle.engine.specs.Engine.{closed_by, valued_by, or_else, placed}

-- due, or where it may be left out passed over
unfoldable pub leaf_of : Bool → List ℕ → List ℕ → Kind → Field → List ℕ → ℕ → Trace
leaf_of may start finish k f m p =
    on_look (look (exactly start) (drop (skipped m p) m))
    (valued_by (exactly finish) k f m (skipped m p + length start))
    (fault 3 (length m))
    (pick may (up_to (skipped m p)) (fault 4 (skipped m p)))

-- a group's end tag, after white space
unfoldable pub end_of : List ℕ → List ℕ → ℕ → Trace
end_of finish m p = closed_by (exactly finish) m (skipped m p)

-- ---- by how a start tag lies after white space: what follows at its `<`, or what else stands there
abbrev pub by_tag : List (ℕ → Bool) → (ℕ → Trace) → (ℕ → Trace) → List ℕ → ℕ → Trace
by_tag tag whole other m p = on_look (look tag (drop (skipped m p) m)) (whole (skipped m p)) (fault 3 (length m)) (other (skipped m p))

-- a group's start tag that is due
unfoldable pub open_of : List ℕ → List ℕ → ℕ → Trace
open_of start m p = by_tag (exactly start) (λ q. up_to (q + length start)) (fault 4) m p

-- an amount's start tag that is due, and its currency
unfoldable pub enter_of : List ℕ → List ℕ → ℕ → Trace
enter_of start m p = by_tag (exactly start ++ currency) (λ q. priced true m (q + (length start + 5))) (fault 4) m p

abbrev pub amount_of : List ℕ → List ℕ → Kind → Field → List ℕ → ℕ → Trace
amount_of start finish k f m p = and_then (enter_of start m p) (valued_by (exactly finish) k f m)

-- a value in one group, and in two: the start tags, and the end tags from the inside
abbrev pub one_of : List ℕ → List ℕ → List ℕ → List ℕ → Kind → Field → List ℕ → ℕ → Trace
one_of s1 s2 e2 e1 k f m p = and_then (and_then (open_of s1 m p) (leaf_of false s2 e2 k f m)) (end_of e1 m)

abbrev pub two_of : List ℕ → List ℕ → List ℕ → List ℕ → List ℕ → List ℕ → Kind → Field → List ℕ → ℕ → Trace
two_of s1 s2 s3 e3 e2 e1 k f m p = and_then (and_then (open_of s1 m p) (one_of s2 s3 e3 e2 k f m)) (end_of e1 m)

-- a value in a group that is 0 or 1 and is not the payment type
abbrev pub inside_of : List ℕ → List ℕ → List ℕ → Kind → Field → List ℕ → ℕ → Trace
inside_of s2 e2 e1 k f m p = and_then (leaf_of false s2 e2 k f m p) (end_of e1 m)

unfoldable pub may_of : List ℕ → List ℕ → List ℕ → List ℕ → Kind → Field → List ℕ → ℕ → Trace
may_of s1 s2 e2 e1 k f m p = by_tag (exactly s1) (λ q. inside_of s2 e2 e1 k f m (q + length s1)) up_to m p

-- the payment type: what it holds, up to its end; and whether it is there
abbrev pub in_type_of : List ℕ → ℕ → Trace
in_type_of m p =
    and_then (and_then (and_then
    (one_of (plain_tag "SvcLvl") (plain_tag "Cd") (end_tag "Cd") (end_tag "SvcLvl") (Code code.SvcLvl) SvcLvl m p)
    (one_of (plain_tag "LclInstrm") (plain_tag "Cd") (end_tag "Cd") (end_tag "LclInstrm") (Code code.LclInstrm) LclInstrm m))
    (leaf_of false (plain_tag "SeqTp") (end_tag "SeqTp") (Code code.SeqTp) SeqTp m))
    (end_of (end_tag type_name) m)

unfoldable pub type_of : List ℕ → ℕ → Trace
type_of m p =
    by_tag (exactly (plain_tag type_name)) (λ q. met (there type_name at q) (in_type_of m (q + length (plain_tag type_name)))) (λ q. met (absent type_name at q) (up_to q)) m p

-- the mandate, the creditor's identifier and its scheme, and what DrctDbtTx is
abbrev pub mandate_of : List ℕ → ℕ → Trace
mandate_of m p =
    and_then (and_then (and_then (open_of (plain_tag "MndtRltdInf") m p)
    (leaf_of false (plain_tag "MndtId") (end_tag "MndtId") (Plain Reference) MndtId m))
    (leaf_of false (plain_tag "DtOfSgntr") (end_tag "DtOfSgntr") (Plain Date) DtOfSgntr m))
    (end_of (end_tag "MndtRltdInf") m)

abbrev pub other_of : List ℕ → ℕ → Trace
other_of m p =
    and_then (and_then (and_then (open_of (plain_tag "Othr") m p)
    (leaf_of false (plain_tag "Id") (end_tag "Id") (Plain Identifier) CdtrId m))
    (one_of (plain_tag "SchmeNm") (plain_tag "Prtry") (end_tag "Prtry") (end_tag "SchmeNm") (Code code.Prtry) Prtry m))
    (end_of (end_tag "Othr") m)

abbrev pub private_of : List ℕ → ℕ → Trace
private_of m p = and_then (and_then (open_of (plain_tag "PrvtId") m p) (other_of m)) (end_of (end_tag "PrvtId") m)

abbrev pub own_of : List ℕ → ℕ → Trace
own_of m p = and_then (and_then (open_of (plain_tag "Id") m p) (private_of m)) (end_of (end_tag "Id") m)

abbrev pub scheme_of : List ℕ → ℕ → Trace
scheme_of m p = and_then (and_then (open_of (plain_tag "CdtrSchmeId") m p) (own_of m)) (end_of (end_tag "CdtrSchmeId") m)

abbrev pub debit_of : List ℕ → ℕ → Trace
debit_of m p = and_then (and_then (and_then (open_of (plain_tag "DrctDbtTx") m p) (mandate_of m)) (scheme_of m)) (end_of (end_tag "DrctDbtTx") m)

-- ---- an item, in three parts; and the header
abbrev pub agent_of : Version → List ℕ → List ℕ → Field → List ℕ → ℕ → Trace
agent_of v start finish f m p = two_of start (plain_tag "FinInstnId") (plain_tag (bic_name v)) (end_tag (bic_name v)) (end_tag "FinInstnId") finish (bic_kind v) f m p

abbrev pub head_of : List ℕ → ℕ → Trace
head_of m p =
    and_then (and_then (and_then (and_then (and_then (open_of (plain_tag "PmtId") m p)
    (trace pmt_id m))
    (type_of m))
    (amount_of (amount_tag "IntrBkSttlmAmt") (end_tag "IntrBkSttlmAmt") Amount IntrBkSttlmAmt m))
    (leaf_of false (plain_tag "ChrgBr") (end_tag "ChrgBr") (Code code.ChrgBr) ChrgBr m))
    (leaf_of false (plain_tag "ReqdColltnDt") (end_tag "ReqdColltnDt") (Plain Date) ReqdColltnDt m)

abbrev pub parties_of : Version → List ℕ → ℕ → Trace
parties_of v m p =
    and_then (and_then (and_then (and_then (and_then (debit_of m p)
    (one_of (plain_tag "Cdtr") (plain_tag "Nm") (end_tag "Nm") (end_tag "Cdtr") (Plain Text70) CdtrNm m))
    (two_of (plain_tag "CdtrAcct") (plain_tag "Id") (plain_tag "IBAN") (end_tag "IBAN") (end_tag "Id") (end_tag "CdtrAcct") (Plain Iban) CdtrIban m))
    (agent_of v (plain_tag "CdtrAgt") (end_tag "CdtrAgt") CdtrBic m))
    (one_of (plain_tag "Dbtr") (plain_tag "Nm") (end_tag "Nm") (end_tag "Dbtr") (Plain Text70) DbtrNm m))
    (two_of (plain_tag "DbtrAcct") (plain_tag "Id") (plain_tag "IBAN") (end_tag "IBAN") (end_tag "Id") (end_tag "DbtrAcct") (Plain Iban) DbtrIban m)

abbrev pub last_of : Version → List ℕ → ℕ → Trace
last_of v m p =
    and_then (and_then (agent_of v (plain_tag "DbtrAgt") (end_tag "DbtrAgt") DbtrBic m p)
    (may_of (plain_tag "RmtInf") (plain_tag "Ustrd") (end_tag "Ustrd") (end_tag "RmtInf") (Plain Text140) Ustrd m))
    (end_of (end_tag item_name) m)

abbrev pub item_of : Version → List ℕ → ℕ → Trace
item_of v m p = and_then (and_then (head_of m p) (parties_of v m)) (last_of v m)

-- the first item, which is due
abbrev pub due_item : Version → List ℕ → ℕ → Trace
due_item v m p = by_tag item_tag (item_body v m) (fault 4) m p

-- items that come again, at most i of them, and the end of the bulk
abbrev pub more_of : Version → List ℕ → ℕ → ℕ → Trace
more_of v m i p = again i item_name item_tag m (item_body v m) (trace (end bulk_name) m) p

abbrev pub first_of : List ℕ → ℕ → Trace
first_of m p =
    and_then (and_then (and_then (and_then (leaf_of false (plain_tag "MsgId") (end_tag "MsgId") (Plain Reference) MsgId m p)
    (leaf_of false (plain_tag "CreDtTm") (end_tag "CreDtTm") (Plain Time) CreDtTm m))
    (leaf_of false (plain_tag "NbOfTxs") (end_tag "NbOfTxs") Count NbOfTxs m))
    (amount_of (amount_tag "TtlIntrBkSttlmAmt") (end_tag "TtlIntrBkSttlmAmt") Total TtlIntrBkSttlmAmt m))
    (leaf_of false (plain_tag "IntrBkSttlmDt") (end_tag "IntrBkSttlmDt") (Plain Date) IntrBkSttlmDt m)

abbrev pub header_of : Version → List ℕ → ℕ → Trace
header_of v m p =
    and_then (and_then (and_then (and_then (first_of m p)
    (one_of (plain_tag "SttlmInf") (plain_tag "SttlmMtd") (end_tag "SttlmMtd") (end_tag "SttlmInf") (Code code.SttlmMtd) SttlmMtd m))
    (type_of m))
    (agent_of v (plain_tag "InstgAgt") (end_tag "InstgAgt") InstgBic m))
    (end_of (end_tag header_name) m)

-- the items, and what the bulk holds, up to its end
abbrev pub the_items : Version → Shape
the_items v = group many item_name (in_item v) (end bulk_name)

abbrev pub in_bulk : Version → Shape
in_bulk v = group once header_name (in_header v) (the_items v)

-- x and y are what is made of t by one who has noted n and places l; and reading is fine
pub record Makes (m : List ℕ) (t : Trace) (n : Notes) (l : List ℕ) (x : Reading (Ended Notes)) (y : List ℕ) : Type 0 where
  pub is : x ≡ reads t n
  pub fine : Fine m 0 x
  pub places : y ≡ placed t n l

-- behind a reading: what holds of the notes where it goes on
abbrev pub Behind : Reading (Ended Notes) → (Notes → Type 0) → Type 0
Behind (on s) P = P s.notes
Behind (stop n q) P = Unit {0}

-- the start tag of an item stands at p, after white space, and r is the place behind it
pub record ItemBegins (m : List ℕ) (p r : ℕ) : Type 0 where
  pub whole : look item_tag (drop (skipped m p) m) ≡ Whole
  pub behind : r ≡ skipped m p + 14

-- items one behind the other: what is made of n more behind r is what is made of i more behind s
pub record Onward (v : Version) (m : List ℕ) (n : ℕ) (r : Reading (Ended Notes)) (k : List ℕ) (i : ℕ) (s : Reading (Ended Notes)) (l : List ℕ) : Type 0 where
  pub fine : Fine m 0 s
  pub room : Behind s (Room 0)
  pub same : onward r (λ z. reads (more_of v m n z.at) z.notes) ≡ onward s (λ z. reads (more_of v m i z.at) z.notes)
  pub places : or_else r (λ z. placed (more_of v m n z.at) z.notes k) k ≡ or_else s (λ z. placed (more_of v m i z.at) z.notes l) l
  pub long : length l ≡ length k
