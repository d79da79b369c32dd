-- The key of an accepted bulk is made of its document's own four values, and two bulks of one key have the same four.
use mathlib.Core.Path.{◌≡◌, refl, sym, ap, ◌∙◌}
use mathlib.Core.Bool.{Bool, true}
use mathlib.Core.List.{List, [], ◌∷◌}
use Prim.Native.Nat.{ℕ, ◌≤◌}
use native.Mathlib.Omega.{arith}
use lib.ListN.{length}
use Rattle.text.specs.Truth.{pick}
use Rattle.text.proofs.Truths.{never}
use Rattle.codes.specs.declared.Element.TheVariants.{LclInstrm}
use Rattle.profile.specs.declared.Kind.{Kind}
use Rattle.profile.specs.declared.Kind.TheVariants.{Code}
use Rattle.profile.specs.declared.Simple.TheVariants.{Reference, Date}
use Rattle.profile.specs.declared.Field.{Field}
use Rattle.profile.specs.declared.Field.TheVariants.{MsgId, InstgBic, IntrBkSttlmDt, TxId}
use Rattle.profile.specs.Kinds.{same_kind}
use Rattle.profile.specs.declared.Version.{Version}
use Rattle.profile.specs.declared.Version.TheVariants.{V02, V08}
use Rattle.profile.specs.Profile.{is_type, profile}
use Rattle.kinds.specs.Given.{kind_given}
use Rattle.reading.specs.Trace.{What, Entry, trace, message}
use Rattle.reading.specs.Noted.{Ended}
use Rattle.reading.specs.Verdict.{accepted}
use Rattle.reading.specs.Rules.{items_in, values_of, values_at, first_of}
use Rattle.reading.specs.Judged.{whats, last_of, judged}
use Rattle.reading.specs.Items.{notes_of}
use Rattle.reading.proofs.Flat.{flat, goes_flat, goes_whole}
use Rattle.documents.specs.Document.{Proper, Each}
use Rattle.documents.specs.Said.{said}
use Rattle.documents.specs.Holds.{Passes, Alike, TypeStands, in_header, in_items, Holds}
use Rattle.documents.proofs.Often.{fixed, times, even, balance, as_often, any_item, a_field, a_stranger, weight_items, weight_kind, weight_field}
use Rattle.documents.proofs.Typed.{InType, once_above, once_each}
use Rattle.documents.proofs.Lists.{lone}
use Rattle.documents.proofs.Messages.{Documented, message_found}
use Rattle.documents.proofs.Exactly.{document_accepted}
use Rattle.documents.proofs.Standing.{OnceAt, one_at}
use Rattle.items.specs.Sure.{sure}
use Rattle.items.specs.Chain.{Itemized}
use Rattle.items.proofs.Parts.{surely}
use Rattle.items.proofs.Accepted.{accepted_chained}
use Rattle.padding.proofs.Padded.{padded_one, first_field}
use Rattle.padding.proofs.Legal.{Written, each_legal, each_of, service_fits, a_plain, Fits, plain_fits, a_bic, bic_fits}
use Rattle.naming.specs.Key.{key_with, service_of, key_of, read_in, keyed}
use Rattle.naming.specs.Own.{Four, key_for, Named}

-- ---- each stands once in the header, and is of its kind
pub id_once : (v : Version) → OnceAt MsgId (profile v)
unfolding profile
id_once V02 = record { fixed = refl; once = refl }
id_once V08 = record { fixed = refl; once = refl }

pub bic_once : (v : Version) → OnceAt InstgBic (profile v)
unfolding profile
bic_once V02 = record { fixed = refl; once = refl }
bic_once V08 = record { fixed = refl; once = refl }

pub date_once : (v : Version) → OnceAt IntrBkSttlmDt (profile v)
unfolding profile
date_once V02 = record { fixed = refl; once = refl }
date_once V08 = record { fixed = refl; once = refl }

pub record KindAt (h : Field) (t : Kind → Bool) (v : Version) : Type 0 where
  pub fixed : fixed (a_stranger h t) (profile v) ≡ true
  pub none : times (a_stranger h t) (profile v) ≡ 0

pub id_kind : (v : Version) → KindAt MsgId (a_plain Reference) v
unfolding profile
id_kind V02 = record { fixed = refl; none = refl }
id_kind V08 = record { fixed = refl; none = refl }

pub bic_kind_lem : (v : Version) → KindAt InstgBic a_bic v
unfolding profile
bic_kind_lem V02 = record { fixed = refl; none = refl }
bic_kind_lem V08 = record { fixed = refl; none = refl }

pub date_kind : (v : Version) → KindAt IntrBkSttlmDt (a_plain Date) v
unfolding profile
date_kind V02 = record { fixed = refl; none = refl }
date_kind V08 = record { fixed = refl; none = refl }

-- ---- there is a LclInstrm: one in each payment type
abbrev a_service : Kind → Field → ℕ
a_service k f = pick (same_kind k (Code LclInstrm)) 1 0

-- a TxId in every item, and some item
item_there : (v : Version) → (sure TxId (profile v) ≡ true) × (even (a_field TxId) any_item (profile v) ≡ true) × (times (a_field TxId) (profile v) ≡ times any_item (profile v))
unfolding profile is_type
item_there V02 = (refl, refl, refl)
item_there V08 = (refl, refl, refl)

service_typed : (v : Version) → InType a_service v
unfolding profile is_type
service_typed V02 = record { level = refl; twice = refl; item = refl }
service_typed V08 = record { level = refl; twice = refl; item = refl }

-- ---- the four of an accepted message
one_of : (l : List (List ℕ)) → length l ≡ 1 → l ≡ last_of [] l ∷ []
one_of l h = lone l h

-- the first of some, and the others
record Headed (l : List (List ℕ)) : Type 0 where
  pub others : List (List ℕ)
  pub is : l ≡ first_of [] l ∷ others
  pub same : Each (λ w. w ≡ first_of [] l) others

headed : (l : List (List ℕ)) → 1 ≤ length l → Alike l → Headed l
headed [] h a = never (omega arith)
headed (w ∷ l) h a = record { others = l; is = refl; same = a }

module _ (m : List ℕ) (n c : ℕ) (e : judged m ≡ accepted n c) where
  abbrev read : Itemized m n
  read = accepted_chained m n c e

  abbrev end : Ended (List Entry)
  end = record { at = read.last; notes = read.ended.notes }

  abbrev doc : Documented m
  doc = message_found m read.last (goes_whole (message m) [] end read.goes)

  abbrev ws : List What
  ws = said (profile doc.version) doc.document.inside

  read-said : read_in m ≡ ws
  read-said = ap (λ q. whats (notes_of q)) read.goes ∙ (ap whats (goes_flat (message m) [] end read.goes) ∙ doc.says)

  holds : Holds ws n c
  holds = document_accepted doc.document doc.lawful n c (rw doc.is at e)

  proper : Proper (profile doc.version) doc.document.inside
  proper = doc.lawful.inside

  -- it stands in the header or in every item
  service-there : 1 ≤ length (values_of (Code LclInstrm) ws)
  service-there = go holds.type
    where
      some : 1 ≤ items_in ws
      some =
          let t = trace (profile read.version) m read.place in
          let z : ws ≡ whats (flat t) = sym read-said ∙ ap (λ q. whats (notes_of q)) read.goes ∙ ap whats (goes_flat t [] read.ended read.reads) in
          let one : 1 ≤ length (values_at TxId (whats (flat t))) =
          surely m TxId (profile read.version) (item_there read.version).0 read.place read.ended.at (goes_whole t [] read.ended read.reads) in
          let k = item_there doc.version in
          omega (
            arith,
            ap (λ (l : List What). length (values_at TxId l)) z,
            one,
            weight_field TxId ws,
            weight_items ws,
            balance (a_field TxId) any_item (profile doc.version) k.1 doc.document.inside proper,
            k.2,
          )

      go : TypeStands ws → 1 ≤ length (values_of (Code LclInstrm) ws)
      go (in_header t) = omega (arith, weight_kind (Code LclInstrm) ws, once_above a_service doc.version (service_typed doc.version) doc.document.inside proper t)
      go (in_items t) = omega (arith, weight_kind (Code LclInstrm) ws, once_each a_service doc.version (service_typed doc.version) doc.document.inside proper t, some)

  pub four : Four
  four = record { service = first_of [] (values_of (Code LclInstrm) ws); id = last_of [] (values_at MsgId ws); bic = last_of [] (values_at InstgBic ws); date = last_of [] (values_at IntrBkSttlmDt ws) }

  -- **The key of an accepted bulk is made of its document's own values**: its items' LclInstrm, its one MsgId, its one instructing BIC, its one settlement date.
  pub named : Named m
  unfolding four keyed
  named =
      let s = headed (values_of (Code LclInstrm) ws) service-there holds.alike in
      record {
        version = doc.version;
        document = doc.document;
        lawful = doc.lawful;
        is = doc.is;
        four = four;
        names =
            record {
              others = s.others;
              service = s.is;
              same = s.same;
              id = one_of (values_at MsgId ws) (one_at doc.document.inside proper MsgId (id_once doc.version));
              bic = one_of (values_at InstgBic ws) (one_at doc.document.inside proper InstgBic (bic_once doc.version));
              date = one_of (values_at IntrBkSttlmDt ws) (one_at doc.document.inside proper IntrBkSttlmDt (date_once doc.version));
            };
        key = rw e (ap key_of read-said);
      }

  -- what each of them is
  held_at : (h : Field) (t : Kind → Bool) (P : List ℕ → Type 0) → ((k : Kind) (v : List ℕ) → t k ≡ true → Passes (kind_given k v) → P v)
      → KindAt h t doc.version → OnceAt h (profile doc.version) → P (last_of [] (values_at h ws))
  held_at h t P g k o =
      let l = each_legal h t P g ws (as_often (a_stranger h t) (profile doc.version) k.fixed doc.document.inside proper ∙ k.none) holds.kinds in
      (rw (one_of (values_at h ws) (one_at doc.document.inside proper h o)) at l).0

  pub record FourHeld (f : Four) : Type 0 where
    pub service : Written 4 f.service
    pub id : Written 35 f.id
    pub bic : Written 11 f.bic
    pub date : Written 10 f.date

  pub four_held : FourHeld four
  unfolding four
  four_held =
      let s = headed (values_of (Code LclInstrm) ws) service-there holds.alike in
      record {
        service = (rw s.is at (each_of (Code LclInstrm) (Written 4) service_fits ws holds.kinds)).0;
        id = held_at MsgId (a_plain Reference) (Fits Reference) (plain_fits Reference) (id_kind doc.version) (id_once doc.version);
        bic = held_at InstgBic a_bic (Written 11) bic_fits (bic_kind_lem doc.version) (bic_once doc.version);
        date = held_at IntrBkSttlmDt (a_plain Date) (Fits Date) (plain_fits Date) (date_kind doc.version) (date_once doc.version);
      }

  -- so a service is read
  pub service_written : 1 ≤ length (service_of (read_in m))
  unfolding four
  service_written = rw read-said four_held.service.0

-- ---- four values that their fields hold are told from the key
module _ (m k : List ℕ) {n c i d : ℕ} (e : judged m ≡ accepted n c) (g : judged k ≡ accepted i d) where
  -- **Two accepted bulks of one key have the same service, MsgId, instructing BIC and settlement date.**
  pub same_four : (keyed m).key ≡ (keyed k).key → four m n c e ≡ four k i d g
  unfolding key_with four named
  same_four z =
      let f = four m n c e in
      let t = four k i d g in
      let h = four_held m n c e in
      let j = four_held k i d g in
      let y : key_for f ≡ key_for t = sym (named m n c e).key ∙ (z ∙ (named k i d g).key) in
      let p = first_field 4 f.service t.service _ _ y in
      let q = first_field 35 f.id t.id _ _ p.1 in
      let r = first_field 11 f.bic t.bic _ _ q.1 in
      let a : f.service ≡ t.service = padded_one 4 f.service t.service h.service.1 j.service.1 p.0 in
      let b : f.id ≡ t.id = padded_one 35 f.id t.id h.id.1 j.id.1 q.0 in
      let w : f.bic ≡ t.bic = padded_one 11 f.bic t.bic h.bic.1 j.bic.1 r.0 in
      let x : f.date ≡ t.date = padded_one 10 f.date t.date h.date.1 j.date.1 r.1 in
      ap (λ (l : List ℕ). record { service = l; id = f.id; bic = f.bic; date = f.date }) a
      ∙ ap (λ (l : List ℕ). record { service = t.service; id = l; bic = f.bic; date = f.date }) b
      ∙ ap (λ (l : List ℕ). record { service = t.service; id = t.id; bic = l; date = f.date }) w
      ∙ ap (λ (l : List ℕ). record { service = t.service; id = t.id; bic = t.bic; date = l }) x
