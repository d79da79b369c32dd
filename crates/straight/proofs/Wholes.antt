-- An item and the header: what the exact readers read, part by part, is what the definition says; and there is room for the item's amount when it comes.
use Rattle.std.proofs.Common.{◌≡◌, ℕ, ◌+◌, false, List, length, drop, sym, refl, ap, ◌∙◌, arith}
use Rattle.tags.specs.declared.Look.{Look}
use Rattle.tags.specs.declared.Look.TheVariants.{Whole, Cut, Other}
use Rattle.tags.specs.Tags.{skipped, look, on_look, exactly, plain_tag, amount_tag, end_tag}
use Rattle.codes.specs.declared.Element.TheVariants as code
use Rattle.profile.specs.declared.Kind.TheVariants.{Plain, Count, Total, Amount, Code}
use Rattle.profile.specs.declared.Simple.TheVariants.{Reference, Text70, Text140, Date, Time, Iban}
use Rattle.profile.specs.declared.Field.TheVariants.{MsgId, CreDtTm, NbOfTxs, TtlIntrBkSttlmAmt, IntrBkSttlmDt, SttlmMtd, InstgBic, IntrBkSttlmAmt, ChrgBr, ReqdColltnDt}
use Rattle.profile.specs.declared.Field.TheVariants.{MndtId, DtOfSgntr, CdtrNm, CdtrIban, CdtrBic, DbtrNm, DbtrIban, DbtrBic, Ustrd}
use Rattle.profile.specs.declared.Version.{Version}
use Rattle.profile.specs.declared.Version.TheVariants.{V02, V08}
use Rattle.profile.specs.Kinds.{is_amount}
use Rattle.profile.specs.Tree.{once, optional, Shape, end, leaf, group, children}
use Rattle.profile.specs.Profile.{bic_name, bic_kind, type_name, header_name, item_name, is_type, payment_type, in_item, in_header}
use Rattle.items.specs.Sums.{an_amount}
use Rattle.items.proofs.Room as law
use Rattle.reading.specs.Trace.{there, absent, ◌at◌, Trace, met, up_to, fault, and_then, trace}
use Rattle.reading.specs.Noted.{Reading, on, Ended}
use Rattle.notes.specs.declared.Notes.{Notes}
use Rattle.notes.specs.Notes.{in_notes}
use Rattle.notes.specs.Steps.{reads, Room}
use Rattle.notes.proofs.Room.{adds}
use Rattle.straight.specs.Due.{made}
use Rattle.straight.specs.Pieces.{pmt_id}
use Rattle.straight.specs.Exact.{leaf_of, end_of, open_of, one_of, two_of, may_of, in_type_of, type_of, amount_of, debit_of, agent_of, head_of, parties_of, last_of, item_of, header_of}
use Rattle.straight.proofs.Made.{Alike, made_same}
use Rattle.straight.proofs.Elements.{child_once, end_is, made_on, next_end_lem}
use Rattle.straight.proofs.Groups.{then_each, next_is, group_is, one_is, two_is, may_is}
use Rattle.straight.proofs.Types.{in_type_is, type_is, scheme_in, debit_is}
use Rattle.straight.proofs.Amounts.{amount_is}

abbrev Going : Type 0
Going = Reading (Ended Notes)

-- ---- room for an amount
abbrev sum : Notes → ℕ
sum n = n.sum

abbrev count : Notes → ℕ
count n = n.count

abbrev Leaves : ℕ → Trace → Notes → Type 0
Leaves = law.Leaves an_amount in_notes sum count adds

-- room for y amounts is kept
abbrev pub Keeps : ℕ → (ℕ → Trace) → Type 0
Keeps y t = (p : ℕ) (x : Notes) → Room y x → Leaves y (t p) x

pub keeps : (y : ℕ) (t : ℕ → Trace) → Keeps y t → (u z : Ended Notes) → Room y u.notes → on z ≡ reads (t u.at) u.notes → Room y z.notes
keeps y t k u z h e = law.ended_room an_amount in_notes sum count adds y (t u.at) u.notes z (k u.at u.notes h) (sym e)

module _ (m : List ℕ) where
  pub open_keeps : (y : ℕ) (start : List ℕ) → Keeps y (open_of start m)
  unfolding open_of
  open_keeps y start p x r = go (look (exactly start) (drop (skipped m p) m))
    where
      go : (c : Look) → Leaves y (on_look c (up_to (skipped m p + length start)) (fault 3 (length m)) (fault 4 (skipped m p))) x
      go Whole = r
      go Cut = omega (arith, r)
      go Other = omega (arith, r)

  pub payment_keeps : Keeps 1 (trace pmt_id m)
  payment_keeps p x r = law.leaves_trace an_amount in_notes sum count adds m pmt_id refl 1 p x r

  in-type-keeps : Keeps 1 (in_type_of m)
  in-type-keeps p x r = rw (← in_type_is m p) (law.leaves_trace an_amount in_notes sum count adds m (children payment_type (end type_name)) refl 1 p x r)

  pub type_keeps : Keeps 1 (type_of m)
  unfolding type_of
  type_keeps p x r = go (look (exactly (plain_tag type_name)) (drop (skipped m p) m))
    where
      q : ℕ
      q = skipped m p

      go : (c : Look) → Leaves 1 (on_look c (met (there type_name at q) (in_type_of m (q + length (plain_tag type_name)))) (fault 3 (length m)) (met (absent type_name at q) (up_to q))) x
      go Whole =
          law.leaves_begins an_amount in_notes sum count adds 1 1 0 optional type_name q (in_type_of m (q + length (plain_tag type_name))) x refl r (λ u k. in-type-keeps (q + length (plain_tag type_name)) u k)
      go Cut = omega (arith, r)
      go Other = law.leaves_missing an_amount in_notes sum count adds 1 1 optional type_name q (up_to q) x r (λ u k. k)

-- ---- the definition
bic_no : (v : Version) → is_amount (bic_kind v) ≡ false
bic_no V02 = refl
bic_no V08 = refl

module _ (v : Version) (m : List ℕ) where
  abbrev s13 : Shape
  s13 = end item_name

  abbrev s12 : Shape
  s12 = group optional "RmtInf" (leaf once "Ustrd" (Plain Text140) Ustrd (end "RmtInf")) s13

  abbrev s11 : Shape
  s11 = group once "DbtrAgt" (group once "FinInstnId" (leaf once (bic_name v) (bic_kind v) DbtrBic (end "FinInstnId")) (end "DbtrAgt")) s12

  abbrev s10 : Shape
  s10 = group once "DbtrAcct" (group once "Id" (leaf once "IBAN" (Plain Iban) DbtrIban (end "Id")) (end "DbtrAcct")) s11

  abbrev s9 : Shape
  s9 = group once "Dbtr" (leaf once "Nm" (Plain Text70) DbtrNm (end "Dbtr")) s10

  abbrev s8 : Shape
  s8 = group once "CdtrAgt" (group once "FinInstnId" (leaf once (bic_name v) (bic_kind v) CdtrBic (end "FinInstnId")) (end "CdtrAgt")) s9

  abbrev s7 : Shape
  s7 = group once "CdtrAcct" (group once "Id" (leaf once "IBAN" (Plain Iban) CdtrIban (end "Id")) (end "CdtrAcct")) s8

  abbrev s6 : Shape
  s6 = group once "Cdtr" (leaf once "Nm" (Plain Text70) CdtrNm (end "Cdtr")) s7

  abbrev s5 : Shape
  s5 = group once "DrctDbtTx" (group once "MndtRltdInf" (leaf once "MndtId" (Plain Reference) MndtId (leaf once "DtOfSgntr" (Plain Date) DtOfSgntr (end "MndtRltdInf")))
      (scheme_in m (end "DrctDbtTx"))) s6

  abbrev s4 : Shape
  s4 = leaf once "ReqdColltnDt" (Plain Date) ReqdColltnDt s5

  abbrev s3 : Shape
  s3 = leaf once "ChrgBr" (Code code.ChrgBr) ChrgBr s4

  abbrev s2 : Shape
  s2 = leaf once "IntrBkSttlmAmt" Amount IntrBkSttlmAmt s3

  abbrev s1 : Shape
  s1 = group optional type_name (children payment_type (end type_name)) s2

  head_is : (p : ℕ) → trace (group once "PmtId" pmt_id s1) m p ≡ and_then (head_of m p) (trace s5 m)
  head_is p =
      let a = and_then (open_of (plain_tag "PmtId") m p) (trace pmt_id m) in
      let b = and_then a (type_of m) in
      let c = and_then b (amount_of (amount_tag "IntrBkSttlmAmt") (end_tag "IntrBkSttlmAmt") Amount IntrBkSttlmAmt m) in
      let d = leaf_of false (plain_tag "ChrgBr") (end_tag "ChrgBr") (Code code.ChrgBr) ChrgBr m in
      group_is m "PmtId" pmt_id s1 (trace pmt_id m) (λ z. refl) p
      ∙ (next_is a (trace s1 m) (type_of m) (trace s2 m) (type_is m s2)
      ∙ (next_is b (trace s2 m) (amount_of (amount_tag "IntrBkSttlmAmt") (end_tag "IntrBkSttlmAmt") Amount IntrBkSttlmAmt m) (trace s3 m) (amount_is "IntrBkSttlmAmt" Amount IntrBkSttlmAmt s3 m refl)
      ∙ (next_is c (trace s3 m) d (trace s4 m) (child_once "ChrgBr" (Code code.ChrgBr) ChrgBr s4 m refl)
      ∙ next_is (and_then c d) (trace s4 m) (leaf_of false (plain_tag "ReqdColltnDt") (end_tag "ReqdColltnDt") (Plain Date) ReqdColltnDt m) (trace s5 m)
      (child_once "ReqdColltnDt" (Plain Date) ReqdColltnDt s5 m refl))))

  parties-are : (p : ℕ) → trace s5 m p ≡ and_then (parties_of v m p) (trace s11 m)
  parties-are p =
      let f6 = one_of (plain_tag "Cdtr") (plain_tag "Nm") (end_tag "Nm") (end_tag "Cdtr") (Plain Text70) CdtrNm m in
      let f7 = two_of (plain_tag "CdtrAcct") (plain_tag "Id") (plain_tag "IBAN") (end_tag "IBAN") (end_tag "Id") (end_tag "CdtrAcct") (Plain Iban) CdtrIban m in
      let f8 = agent_of v (plain_tag "CdtrAgt") (end_tag "CdtrAgt") CdtrBic m in
      let f9 = one_of (plain_tag "Dbtr") (plain_tag "Nm") (end_tag "Nm") (end_tag "Dbtr") (Plain Text70) DbtrNm m in
      let f10 = two_of (plain_tag "DbtrAcct") (plain_tag "Id") (plain_tag "IBAN") (end_tag "IBAN") (end_tag "Id") (end_tag "DbtrAcct") (Plain Iban) DbtrIban m in
      let a = and_then (debit_of m p) f6 in
      let b = and_then a f7 in
      let c = and_then b f8 in
      debit_is m s6 p
      ∙ (next_is (debit_of m p) (trace s6 m) f6 (trace s7 m) (one_is m (Plain Text70) CdtrNm refl "Cdtr" "Nm" s7)
      ∙ (next_is a (trace s7 m) f7 (trace s8 m) (two_is m (Plain Iban) CdtrIban refl "CdtrAcct" "Id" "IBAN" s8)
      ∙ (next_is b (trace s8 m) f8 (trace s9 m) (two_is m (bic_kind v) CdtrBic (bic_no v) "CdtrAgt" "FinInstnId" (bic_name v) s9)
      ∙ (next_is c (trace s9 m) f9 (trace s10 m) (one_is m (Plain Text70) DbtrNm refl "Dbtr" "Nm" s10)
      ∙ next_is (and_then c f9) (trace s10 m) f10 (trace s11 m) (two_is m (Plain Iban) DbtrIban refl "DbtrAcct" "Id" "IBAN" s11)))))

  last_is : Alike (trace s11 m) (last_of v m)
  unfolding is_type
  last_is p x l =
      let a = agent_of v (plain_tag "DbtrAgt") (end_tag "DbtrAgt") DbtrBic m p in
      let b = may_of (plain_tag "RmtInf") (plain_tag "Ustrd") (end_tag "Ustrd") (end_tag "RmtInf") (Plain Text140) Ustrd m in
      ap (λ (u : Trace). made u x l) (two_is m (bic_kind v) DbtrBic (bic_no v) "DbtrAgt" "FinInstnId" (bic_name v) s12 p)
      ∙ (made_on m a x l (trace s12 m) b (trace s13 m) (may_is m (Plain Text140) Ustrd refl "RmtInf" "Ustrd" refl s13) ∙ next_end_lem item_name m (and_then a b) x l)

  pub item_is : Alike (item_of v m) (trace (in_item v) m)
  unfolding in_item
  item_is p x l =
      sym (ap (λ (u : Trace). made u x l) (head_is p ∙ next_is (head_of m p) (trace s5 m) (parties_of v m) (trace s11 m) parties-are)
      ∙ made_same (and_then (head_of m p) (parties_of v m)) (trace s11 m) (last_of v m) x l last_is)

  -- ---- the header
  abbrev h8 : Shape
  h8 = end header_name

  abbrev h7 : Shape
  h7 = group once "InstgAgt" (group once "FinInstnId" (leaf once (bic_name v) (bic_kind v) InstgBic (end "FinInstnId")) (end "InstgAgt")) h8

  abbrev h6 : Shape
  h6 = group optional type_name (children payment_type (end type_name)) h7

  abbrev h5 : Shape
  h5 = group once "SttlmInf" (leaf once "SttlmMtd" (Code code.SttlmMtd) SttlmMtd (end "SttlmInf")) h6

  abbrev h4 : Shape
  h4 = leaf once "IntrBkSttlmDt" (Plain Date) IntrBkSttlmDt h5

  abbrev h3 : Shape
  h3 = leaf once "TtlIntrBkSttlmAmt" Total TtlIntrBkSttlmAmt h4

  abbrev h2 : Shape
  h2 = leaf once "NbOfTxs" Count NbOfTxs h3

  abbrev h1 : Shape
  h1 = leaf once "CreDtTm" (Plain Time) CreDtTm h2

  pub header_is : (p : ℕ) → header_of v m p ≡ trace (in_header v) m p
  unfolding in_header
  header_is p =
      let a = leaf_of false (plain_tag "MsgId") (end_tag "MsgId") (Plain Reference) MsgId m p in
      let f1 = leaf_of false (plain_tag "CreDtTm") (end_tag "CreDtTm") (Plain Time) CreDtTm m in
      let f2 = leaf_of false (plain_tag "NbOfTxs") (end_tag "NbOfTxs") Count NbOfTxs m in
      let f3 = amount_of (amount_tag "TtlIntrBkSttlmAmt") (end_tag "TtlIntrBkSttlmAmt") Total TtlIntrBkSttlmAmt m in
      let f4 = leaf_of false (plain_tag "IntrBkSttlmDt") (end_tag "IntrBkSttlmDt") (Plain Date) IntrBkSttlmDt m in
      let f5 = one_of (plain_tag "SttlmInf") (plain_tag "SttlmMtd") (end_tag "SttlmMtd") (end_tag "SttlmInf") (Code code.SttlmMtd) SttlmMtd m in
      let f7 = agent_of v (plain_tag "InstgAgt") (end_tag "InstgAgt") InstgBic m in
      let b = and_then a f1 in
      let c = and_then b f2 in
      let d = and_then c f3 in
      let e = and_then d f4 in
      let g = and_then e f5 in
      sym (child_once "MsgId" (Plain Reference) MsgId h1 m refl p
      ∙ (next_is a (trace h1 m) f1 (trace h2 m) (child_once "CreDtTm" (Plain Time) CreDtTm h2 m refl)
      ∙ (next_is b (trace h2 m) f2 (trace h3 m) (child_once "NbOfTxs" Count NbOfTxs h3 m refl)
      ∙ (next_is c (trace h3 m) f3 (trace h4 m) (amount_is "TtlIntrBkSttlmAmt" Total TtlIntrBkSttlmAmt h4 m refl)
      ∙ (next_is d (trace h4 m) f4 (trace h5 m) (child_once "IntrBkSttlmDt" (Plain Date) IntrBkSttlmDt h5 m refl)
      ∙ (next_is e (trace h5 m) f5 (trace h6 m) (one_is m (Code code.SttlmMtd) SttlmMtd refl "SttlmInf" "SttlmMtd" h6)
      ∙ (next_is g (trace h6 m) (type_of m) (trace h7 m) (type_is m h7)
      ∙ (next_is (and_then g (type_of m)) (trace h7 m) f7 (trace h8 m) (two_is m (bic_kind v) InstgBic (bic_no v) "InstgAgt" "FinInstnId" (bic_name v) h8)
      ∙ then_each (and_then (and_then g (type_of m)) f7) (trace h8 m) (end_of (end_tag header_name) m) (end_is m header_name)))))))))
