-- 24 is deserved: it comes exactly at the earliest TxId that stood before, where no fault is met before it.
use mathlib.Core.Path.{◌≡◌, refl, sym, ap, ◌∙◌}
use mathlib.Core.Bool.{Bool, true, false, not}
use mathlib.Core.List.{List, [], ◌∷◌, ◌++◌, append-nil, append_assoc}
use Prim.Native.Nat.{ℕ, ◌≤◌}
use Prim.Native.String.{String}
use native.Mathlib.Omega.{arith}
use lib.Dec.{ltb}
use lib.ListN.{length}
use Rattle.text.specs.Truth.{both}
use Rattle.text.specs.Quoted.{alike}
use Rattle.text.proofs.Truths.{both_true}
use Rattle.answers.specs.Given.{Given, yes, worth, refused as no, ◌else◌, in_order}
use Rattle.codes.specs.declared.Element.TheVariants.{LclInstrm}
use Rattle.profile.specs.declared.Kind.{Kind}
use Rattle.profile.specs.declared.Kind.TheVariants.{Plain, Count, Total, Amount, Code}
use Rattle.profile.specs.declared.Simple.TheVariants.{Reference, EndToEnd, Text70, Text140, Date, Time, Bic, Bicfi, Iban, Identifier}
use Rattle.profile.specs.declared.Field.{Field}
use Rattle.profile.specs.declared.Field.TheVariants.{TxId}
use Rattle.profile.specs.declared.Version.{Version}
use Rattle.profile.specs.declared.Version.TheVariants.{V02, V08}
use Rattle.profile.specs.Limits.{most_bytes, most_items}
use Rattle.profile.specs.Kinds.{same_kind}
use Rattle.profile.specs.Fields.{same_field}
use Rattle.profile.specs.Profile.{is_type, profile}
use Rattle.profile.specs.Tree.{Occ, once, optional, many, more, Shape, end, leaf, group}
use Rattle.profile.proofs.Fields.{same_field_lem}
use Rattle.kinds.specs.Given.{kind_given}
use Rattle.reading.specs.Trace.{What, item_begins, item_ends, there, absent, value, Entry, ◌at◌, Trace, met, up_to, fault, and_then, begins, ends, Opened, from, faulty, opened}
use Rattle.reading.specs.Noted.{on, stop, onward, Ended, noted}
use Rattle.reading.specs.Rules.{items_in, values_of, values_at, types_in, first_of, stands_in, ◌so◌, unlike_first, rules, fitting, weighed}
use Rattle.reading.specs.Verdict.{refused}
use Rattle.reading.specs.Judged.{whats, or_refused, listed, judged}
use Rattle.reading.proofs.Lists.{whats_append}
use Rattle.reading.proofs.Flat.{never, noted_then}
use Rattle.reading.proofs.Each.{All, Comes, trace_all}
use Rattle.documents.specs.Holds.{Passes}
use Rattle.documents.proofs.Standing.{is_reference}
use Rattle.documents.proofs.Lists.{Kept, kept_none, kept_more}
use Rattle.documents.proofs.Twice.{again_refused}
use Rattle.faults.specs.Refusals.{◌among◌, of_akind, of_form, in_document}
use Rattle.faults.specs.Again.{after_all, IdAgain}
use Rattle.faults.proofs.Numbers.{not_among}
use Rattle.faults.proofs.Extends.{Extends, also, done, wrong, ended}
use Rattle.faults.proofs.Begins.{document_ext}
use Rattle.faults.proofs.Weighs.{SaidIn, kind_said}
use Rattle.faults.proofs.Causes.{document_read, Breaks, refuses}
use Rattle.faults.proofs.Faults.{met_reading}

-- ---- every TxId that is met is a reference
abbrev as_id : Kind → Field → Bool
as_id k f = same_field f TxId so is_reference k

abbrev IdIs : What → Type 0
IdIs item_begins = Unit {0}
IdIs item_ends = Unit {0}
IdIs (there n) = Unit {0}
IdIs (absent n) = Unit {0}
IdIs (value k f v) = as_id k f ≡ true

abbrev ids_are : Shape → Bool
ids_are (end n) = true
ids_are (leaf o n k f rest) = both (as_id k f) (ids_are rest)
ids_are (group o n inner rest) = both (ids_are inner) (ids_are rest)

profile_ids : (v : Version) → ids_are (profile v) ≡ true
unfolding profile
profile_ids V02 = refl
profile_ids V08 = refl

comes : (sh : Shape) → ids_are sh ≡ true → Comes (λ o. Unit {0}) (λ k f n. as_id k f ≡ true) sh
comes (end n) e = tt
comes (leaf o n k f rest) e = let h = both_true (as_id k f) (ids_are rest) e in (tt, h.0, comes rest h.1)
comes (group o n inner rest) e = let h = both_true (ids_are inner) (ids_are rest) e in (tt, comes inner h.0, comes rest h.1)

abbrev AllIds : Trace → Type 0
AllIds = All (λ e. IdIs e.what)

document_ids : (m : List ℕ) (o : Opened) → AllIds (in_document m o)
document_ids m (faulty n q) = tt
document_ids m (from v p) = trace_all m (λ e. IdIs e.what) (λ o. Unit {0}) (λ k f n. as_id k f ≡ true) (λ n k f b p q e w h. b) begin (λ n q. tt) finish (profile v) (comes (profile v) (profile_ids v)) p
  where
    begin : (o : Occ) → Unit {0} → (n : String) (q : ℕ) (t : Trace) → AllIds t → AllIds (begins o n q t)
    begin once a n q t h = h
    begin optional a n q t h = (tt, h)
    begin many a n q t h = (tt, h)
    begin more a n q t h = (tt, h)

    finish : (o : Occ) → Unit {0} → (q : ℕ) → AllIds (ends o q)
    finish once a q = tt
    finish optional a q = tt
    finish many a q = (tt, tt)
    finish more a q = (tt, tt)

is_reference_lem : (k : Kind) → is_reference k ≡ true → k ≡ Plain Reference
is_reference_lem (Plain Reference) e = refl
is_reference_lem (Plain EndToEnd) e = never (cc)
is_reference_lem (Plain Text70) e = never (cc)
is_reference_lem (Plain Text140) e = never (cc)
is_reference_lem (Plain Date) e = never (cc)
is_reference_lem (Plain Time) e = never (cc)
is_reference_lem (Plain Bic) e = never (cc)
is_reference_lem (Plain Bicfi) e = never (cc)
is_reference_lem (Plain Iban) e = never (cc)
is_reference_lem (Plain Identifier) e = never (cc)
is_reference_lem Count e = never (cc)
is_reference_lem Total e = never (cc)
is_reference_lem Amount e = never (cc)
is_reference_lem (Code c) e = never (cc)

-- ---- what is weighed with 24
record Stood (before : List What) (w : What) : Type 0 where
  pub bytes : List ℕ
  pub is : w ≡ value (Plain Reference) TxId bytes
  pub legal : Passes (kind_given (Plain Reference) bytes)
  pub again : stands_in bytes (values_at TxId before) ≡ true

other_rule : (b : Bool) (n : ℕ) → (n ≡ 24 → ⊥) → in_order (b else n ∷ []) yes ≡ no 24 → ⊥
other_rule true n h e = never (cc)
other_rule false n h e = h (cc)

weighed_again : (before : List What) (w : What) → IdIs w → weighed before w ≡ no 24 → Stood before w
weighed_again before item_begins i e = absurd (other_rule (ltb (items_in before) most_items) 12 (λ z. omega (arith, z)) e)
weighed_again before item_ends i e = never (cc)
weighed_again before (there n) i e = absurd (other_rule (is_type n so unlike_first true (types_in before)) 23 (λ z. omega (arith, z)) e)
weighed_again before (absent n) i e = absurd (other_rule (is_type n so unlike_first false (types_in before)) 4 (λ z. omega (arith, z)) e)
weighed_again before (value k f v) i e =
    go (kind_given k v) refl (kind_said k v) (same_kind k (Code LclInstrm) so alike (first_of v (values_of (Code LclInstrm) before)) v) (same_field f TxId) refl (stands_in v (values_at TxId before)) refl i e
  where
    stood : Passes (kind_given k v) → same_field f TxId ≡ true → is_reference k ≡ true → stands_in v (values_at TxId before) ≡ true → Stood before (value k f v)
    stood p c r d =
        let z : k ≡ Plain Reference = is_reference_lem k r in
        let y : f ≡ TxId = same_field_lem f TxId c in
        record { bytes = v; is = rw (z, y); legal = rw z at p; again = d }

    eleven : {A : Type 0} → no 11 ≡ no 24 → A
    eleven e = absurd (let z : ◌≡◌ {A = ℕ} 11 24 = cc in omega (arith, z))

    rule : Passes (kind_given k v) → (a c : Bool) → same_field f TxId ≡ c → (d : Bool) → stands_in v (values_at TxId before) ≡ d → (c so is_reference k) ≡ true
        → in_order (a else 11 ∷ (c so not d) else 24 ∷ []) yes ≡ no 24 → Stood before (value k f v)
    rule p false c x d y i e = eleven e
    rule p true false x d y i e = never (cc)
    rule p true true x false y i e = never (cc)
    rule p true true x true y i e = stood p x i y

    go : (g : Given) → kind_given k v ≡ g → SaidIn of_akind g → (a c : Bool) → same_field f TxId ≡ c → (d : Bool) → stands_in v (values_at TxId before) ≡ d → (c so is_reference k) ≡ true
        → fitting g (in_order (a else 11 ∷ (c so not d) else 24 ∷ []) yes) ≡ no 24 → Stood before (value k f v)
    go yes z s a c x d y i e = rule (rw z tt) a c x d y i e
    go (worth n) z s a c x d y i e = rule (rw z tt) a c x d y i e
    go (no n) z s a c x d y i e = absurd (not_among 24 of_akind n refl s (cc))

-- ---- along what stands there
record Found (t : Trace) (es : List Entry) (p : ℕ) : Type 0 where
  pub read : List Entry
  pub in_order : noted listed (after_all read (up_to p)) es ≡ on (record { at = p; notes = es ++ read })
  pub bytes : List ℕ
  pub rest : Trace
  pub is : t ≡ after_all read (met (value (Plain Reference) TxId bytes at p) rest)
  pub legal : Passes (kind_given (Plain Reference) bytes)
  pub again : stands_in bytes (values_at TxId (whats (es ++ read))) ≡ true
  pub kept : Kept (whats (es ++ read))

found : (t : Trace) (es : List Entry) (p : ℕ) → AllIds t → (Breaks 24 t → ⊥) → Kept (whats es) → noted listed t es ≡ stop 24 p → Found t es p
found (up_to q) es p i b k e = never (cc)
found (fault n q) es p i b k e = absurd (b (cc))
found (met x t) es p i b k e = go (weighed (whats es) x.what) refl (found t (es ++ (x ∷ [])) p i.1 b) e
  where
    next : Passes (weighed (whats es) x.what) → listed x es ≡ on (es ++ (x ∷ [])) → (Kept (whats (es ++ (x ∷ []))) → Found t (es ++ (x ∷ [])) p) → Found (met x t) es p
    next h on-with r =
        let f = r (rw (whats_append es (x ∷ [])) (kept_more (whats es) x.what k h)) in
        let z : (es ++ (x ∷ [])) ++ f.read ≡ es ++ (x ∷ f.read) = append_assoc es (x ∷ []) f.read in
        record {
          read = x ∷ f.read;
          in_order = rw (on-with, ← z) f.in_order;
          bytes = f.bytes;
          rest = f.rest;
          is = ap (met x) f.is;
          legal = f.legal;
          again = rw z at f.again;
          kept = rw z at f.kept;
        }

    here : Stood (whats es) x.what → x.place ≡ p → Found (met x t) es p
    here s q =
        let z : x ≡ (value (Plain Reference) TxId s.bytes at p) = rw (← s.is, ← q) in
        record {
          read = [];
          in_order = rw (append-nil es);
          bytes = s.bytes;
          rest = t;
          is = ap (λ (y : Entry). met y t) z;
          legal = s.legal;
          again = rw (append-nil es) s.again;
          kept = rw (append-nil es) k;
        }

    go : (g : Given) → weighed (whats es) x.what ≡ g → (Kept (whats (es ++ (x ∷ []))) → noted listed t (es ++ (x ∷ [])) ≡ stop 24 p → Found t (es ++ (x ∷ [])) p)
        → onward (or_refused g x.place (es ++ (x ∷ []))) (noted listed t) ≡ stop 24 p → Found (met x t) es p
    go yes z r e = next (rw z tt) (rw z) (λ h. r h e)
    go (worth n) z r e = next (rw z tt) (rw z) (λ h. r h e)
    go (no n) z r e = let y : n ≡ 24 = cc in here (weighed_again (whats es) x.what i.0 (z ∙ ap no y)) (cc)

-- no fault of form has this number
unbroken : {l a : ℕ} {s t : Trace} → Extends l a s t → Breaks 24 s → ⊥
unbroken (also e h x) b = unbroken x b
unbroken (done p h g) b = b
unbroken (wrong n q f z h) b = not_among 24 of_form n refl f b
unbroken ended b = omega (arith, b)

after_then : (l : List Entry) (t : Trace) (p : ℕ) → after_all l t ≡ and_then (after_all l (up_to p)) (λ q. t)
after_then [] t p = refl
after_then (e ∷ l) t p = ap (met e) (after_then l t p)

-- A message is refused with 24 at a place exactly where a TxId begins there that stood before, and no fault is met before it.
module _ (m : List ℕ) (p : ℕ) where
  pub id_again : judged m ≡ refused 24 p → IdAgain m p
  id_again e =
      let f = found (in_document m (opened m)) [] p (document_ids m (opened m)) (unbroken (document_ext m [])) kept_none (met_reading m 24 p e refl).1 in
      record {
        read = f.read;
        in_order = f.in_order;
        bytes = f.bytes;
        rest = f.rest;
        there = f.is;
        legal = f.legal;
        again = f.again;
        apart = f.kept.apart;
      }

  pub again_id : length m ≤ most_bytes → IdAgain m p → judged m ≡ refused 24 p
  again_id h a =
      let it = value (Plain Reference) TxId a.bytes at p in
      let next : ℕ → Trace = λ q. met it a.rest in
      refuses m 24 p h
      (ap (λ (t : Trace). noted listed t []) (a.there ∙ after_then a.read (met it a.rest) p)
      ∙ (noted_then listed (after_all a.read (up_to p)) next []
      ∙ rw (a.in_order, again_refused (whats a.read) (Plain Reference) TxId a.bytes a.legal refl refl a.again)))
