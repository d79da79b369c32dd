-- "The plain form [..] gives the same records": in any area.
use mathlib.Core.Path.{◌≡◌, refl, sym, ap, ◌∙◌, subst}
use mathlib.Core.Bool.{Bool, true}
use mathlib.Core.List.{List, [], ◌∷◌, ◌++◌}
use Prim.Native.Nat.{ℕ}
use Rattle.money.specs.Amount.{cents}
use Rattle.profile.specs.declared.Kind.{Kind}
use Rattle.profile.specs.declared.Kind.TheVariants.{Amount}
use Rattle.profile.specs.declared.Field.{Field}
use Rattle.profile.specs.declared.Field.TheVariants.{TxId, EndToEndId, MndtId, DbtrIban, CdtrIban, DbtrBic, ReqdColltnDt, SeqTp, CdtrId, CdtrBic, InstrId, LclInstrm, DtOfSgntr}
use Rattle.profile.specs.declared.Version.{Version}
use Rattle.profile.specs.declared.Version.TheVariants.{V02, V08}
use Rattle.profile.specs.Tree.{many, Shape}
use Rattle.profile.specs.Profile.{in_header, in_item, profile}
use Rattle.words.specs.Collapsed.{collapsed}
use Rattle.kinds.specs.Meant.{as_meant}
use Rattle.reading.specs.Trace.{What}
use Rattle.reading.specs.Rules.{values_at, values_of}
use Rattle.reading.specs.Judged.{judged, last_of}
use Rattle.reading.specs.Verdict.{accepted}
use Rattle.reading.specs.Items.{the_items}
use Rattle.reading.proofs.Each.{AllIn}
use Rattle.postings.specs.Record.{record_with, value_for, cents_for, record_for}
use Rattle.postings.specs.Area.{records_for, recorded}
use Rattle.documents.specs.Document.{Led, Doc, texts}
use Rattle.documents.specs.Said.{said}
use Rattle.documents.specs.Message.{Message, whole, Lawful}
use Rattle.documents.proofs.Each.{each_both}
use Rattle.bulks.specs.Bulk.{tree, profile_tree, DocItem, Bulk, message, item_record}
use Rattle.bulks.specs.Accepted.{Bulked}
use Rattle.bulks.proofs.Trees.{document_bulk}
use Rattle.bulks.proofs.Posted.{accepted_records}
use Rattle.forms.specs.Plain.{bare, plain, plain_message, PlainForm}
use Rattle.forms.proofs.Said.{meant_in, meant_all, plain_said}
use Rattle.forms.proofs.Holds.{each as of, meant_amounts}
use Rattle.forms.proofs.Fields.{is_read, read_meant, is_words, words_meant, held, Same, said_same, values_same}
use Rattle.forms.proofs.Forms.{plain_lawful, form_accepted}

-- ---- the last of some, and what is asked of it
abbrev last_in : {A : Type 0} → A → List A → A
last_in a [] = a
last_in a (x ∷ l) = last_in x l

last_of_lem : {A : Type 0} (h : List ℕ → A) (v : List ℕ) (l : List (List ℕ)) → last_in (h v) (of h l) ≡ h (last_of v l)
last_of_lem h v [] = refl
last_of_lem h v (w ∷ l) = last_of_lem h w l

-- ---- h is what the record holds of a field's value, and t tells the kinds of which it is the same as meant
module _ (h : List ℕ → List ℕ) (t : Kind → Bool) (same : (k : Kind) → t k ≡ true → (v : List ℕ) → h (as_meant k v) ≡ h v) (g : Field) where
  value_is : (sh : Shape) → held h t same g sh ≡ true → (th : Shape) → held h t same g th ≡ true → (c : Doc sh) (d : Doc th)
      → h (value_for (meant_all (said sh c ++ said th d)) g) ≡ h (value_for (said sh c ++ said th d) g)
  value_is sh e th f c d =
      let ws = said sh c ++ said th d in
      sym (last_of_lem h [] (values_at g (meant_all ws)))
      ∙ (ap (last_in (h [])) (values_same h t same g ws (each_both (Same h t same g) (said sh c) (said th d) (said_same h t same g sh e c) (said_same h t same g th f d))) ∙ last_of_lem h [] (values_at g ws))

-- ---- an item's cents
cents_is : (ws : List What) → cents_for (meant_all ws) ≡ cents_for ws
cents_is ws = sym (last_of_lem cents [] (values_of Amount (meant_all ws))) ∙ ap (last_in (cents [])) (meant_amounts ws) ∙ last_of_lem cents [] (values_of Amount ws)

-- ---- an item's record, under its header
module _ (v : Version) (c : Doc (in_header v)) (d : Doc (in_item v)) where
  abbrev Both : List What
  Both = said (in_header v) c ++ said (in_item v) d

  read_is : (g : Field) → held (λ v. v) is_read read_meant g (in_header v) ≡ true → held (λ v. v) is_read read_meant g (in_item v) ≡ true → value_for (meant_all Both) g ≡ value_for Both g
  read_is g e f = value_is (λ v. v) is_read read_meant g (in_header v) e (in_item v) f c d

  words_are : (g : Field) → held collapsed is_words words_meant g (in_header v) ≡ true → held collapsed is_words words_meant g (in_item v) ≡ true
      → collapsed (value_for (meant_all Both) g) ≡ collapsed (value_for Both g)
  words_are g e f = value_is collapsed is_words words_meant g (in_header v) e (in_item v) f c d

-- the recorded fields that are as read, and the one that is collapsed, by the tree
abbrev as_read_in : Version → Field → Type 0
as_read_in v g = (held (λ v. v) is_read read_meant g (in_header v) ≡ true) × (held (λ v. v) is_read read_meant g (in_item v) ≡ true)

all_read : (v : Version) → AllIn (as_read_in v) (TxId ∷ MndtId ∷ DbtrIban ∷ CdtrIban ∷ DbtrBic ∷ ReqdColltnDt ∷ SeqTp ∷ CdtrId ∷ CdtrBic ∷ InstrId ∷ LclInstrm ∷ DtOfSgntr ∷ [])
unfolding in_header in_item
all_read V02 = ((refl, refl), ((refl, refl), ((refl, refl), ((refl, refl), ((refl, refl), ((refl, refl), ((refl, refl), ((refl, refl), ((refl, refl), ((refl, refl), ((refl, refl), ((refl, refl), tt))))))))))))
all_read V08 = ((refl, refl), ((refl, refl), ((refl, refl), ((refl, refl), ((refl, refl), ((refl, refl), ((refl, refl), ((refl, refl), ((refl, refl), ((refl, refl), ((refl, refl), ((refl, refl), tt))))))))))))

collapsed_one : (v : Version) → (held collapsed is_words words_meant EndToEndId (in_header v) ≡ true) × (held collapsed is_words words_meant EndToEndId (in_item v) ≡ true)
unfolding in_header in_item
collapsed_one V02 = (refl, refl)
collapsed_one V08 = (refl, refl)

record_is : (v : Version) (c : Doc (in_header v)) (d : Doc (in_item v)) → record_for (meant_all (Both v c d)) ≡ record_for (Both v c d)
unfolding record_for
record_is v c d =
    let h = all_read v in
    let w = collapsed_one v in
    rw (
      cents_is (Both v c d),
      read_is v c d TxId h.0.0 h.0.1,
      words_are v c d EndToEndId w.0 w.1,
      read_is v c d MndtId h.1.0.0 h.1.0.1,
      read_is v c d DbtrIban h.1.1.0.0 h.1.1.0.1,
      read_is v c d CdtrIban h.1.1.1.0.0 h.1.1.1.0.1,
      read_is v c d DbtrBic h.1.1.1.1.0.0 h.1.1.1.1.0.1,
      read_is v c d ReqdColltnDt h.1.1.1.1.1.0.0 h.1.1.1.1.1.0.1,
      read_is v c d SeqTp h.1.1.1.1.1.1.0.0 h.1.1.1.1.1.1.0.1,
      read_is v c d CdtrId h.1.1.1.1.1.1.1.0.0 h.1.1.1.1.1.1.1.0.1,
      read_is v c d CdtrBic h.1.1.1.1.1.1.1.1.0.0 h.1.1.1.1.1.1.1.1.0.1,
      read_is v c d InstrId h.1.1.1.1.1.1.1.1.1.0.0 h.1.1.1.1.1.1.1.1.1.0.1,
      read_is v c d LclInstrm h.1.1.1.1.1.1.1.1.1.1.0.0 h.1.1.1.1.1.1.1.1.1.1.0.1,
      read_is v c d DtOfSgntr h.1.1.1.1.1.1.1.1.1.1.1.0.0 h.1.1.1.1.1.1.1.1.1.1.1.0.1,
    )

meant_append : (a b : List What) → meant_all (a ++ b) ≡ meant_all a ++ meant_all b
meant_append [] b = refl
meant_append (w ∷ a) b = ap (λ (l : List What). meant_in w ∷ l) (meant_append a b)

abbrev plain_header : (v : Version) → Led (Doc (in_header v)) → Led (Doc (in_header v))
plain_header v h = record { blank = []; held = plain (in_header v) h.held }

records_are : (v : Version) (h : Led (Doc (in_header v))) (l : List (DocItem v)) → texts (item_record v (plain_header v h)) (bare (plain (in_item v)) l) ≡ texts (item_record v h) l
records_are v h [] = refl
records_are v h (x ∷ l) =
    let e : record_for (said (in_header v) (plain (in_header v) h.held) ++ said (in_item v) (plain (in_item v) x.held)) ≡ record_for (Both v h.held x.held) =
    rw (plain_said (in_header v) h.held, plain_said (in_item v) x.held, ← meant_append (said (in_header v) h.held) (said (in_item v) x.held)) (record_is v h.held x.held) in
    rw (e, records_are v h l)

-- ---- a document and its plain form, as bulks
pub record Bulks (m f : List ℕ) : Type 0 where
  pub one : Bulked m
  pub other : Bulked f
  pub records : texts (item_record other.version other.bulk.header) other.bulk.items ≡ texts (item_record one.version one.bulk.header) one.bulk.items

abbrev plain_bulk : {v : Version} → Bulk v → Bulk v
plain_bulk {v = v} b =
    record {
      declared = true;
      before = [];
      blank = [];
      header = plain_header v b.header;
      items = bare (plain (in_item v)) b.items;
      close = [];
      last = [];
      behind = [];
    }

bulks : (v : Version) (m f : List ℕ) (d : Message v (tree many v)) → Lawful d → m ≡ whole d → f ≡ whole (plain_message d) → Bulks m f
bulks v m f d law e g =
    let b = document_bulk d law in
    let law' : Lawful (message many b.bulk) = subst (λ (x : Message v (tree many v)). Lawful x) b.is law in
    record {
      one = record { version = v; bulk = b.bulk; lawful = law'; is = e ∙ ap whole b.is };
      other = record { version = v; bulk = plain_bulk b.bulk; lawful = plain_lawful (message many b.bulk) law'; is = g ∙ ap (λ (x : Message v (tree many v)). whole (plain_message x)) b.is };
      records = records_are v b.bulk.header b.bulk.items;
    }

bulks_of : (v : Version) (m f : List ℕ) (d : Message v (profile v)) → Lawful d → m ≡ whole d → f ≡ whole (plain_message d) → Bulks m f
bulks_of v m f = subst (λ (sh : Shape). (d : Message v sh) → Lawful d → m ≡ whole d → f ≡ whole (plain_message d) → Bulks m f) (sym (profile_tree v)) (bulks v m f)

-- Whatever the area: the plain form's records are the message's, and so are the verdict and what stands behind them.
pub form_records : (m f a : List ℕ) → PlainForm m f → recorded f a ≡ recorded m a
unfolding recorded
form_records m f a k =
    let p = k.accepted in
    let b = bulks_of p.version m f p.message p.lawful p.is k.is in
    let e = form_accepted m f k in
    rw (e.0, e.1, accepted_records m k.count k.cents e.0 b.one, accepted_records f k.count k.cents e.1 b.other, b.records)
