-- Lists of what was read, the same but for names and remittance texts: the same items, and the same records.
use mathlib.Core.Path.{◌≡◌, refl, sym, ap, ◌∙◌}
use mathlib.Core.Bool.{Bool, true, false, not}
use mathlib.Core.List.{List, [], ◌∷◌, ◌++◌}
use Prim.Native.Nat.{ℕ, zero, suc, ◌<◌}
use native.Mathlib.Omega.{arith}
use borrow.Author.Tests.{not-true}
use lib.ListN.{length, get_or}
use Rattle.text.specs.Truth.{both}
use Rattle.text.proofs.Truths.{never, both_true}
use Rattle.profile.specs.declared.Kind.{Kind}
use Rattle.profile.specs.declared.Kind.TheVariants.{Amount}
use Rattle.profile.specs.declared.Field.{Field}
use Rattle.profile.specs.declared.Field.TheVariants.{TxId, EndToEndId, MndtId, DbtrIban, CdtrIban, DbtrBic, ReqdColltnDt, SeqTp, CdtrId, CdtrBic, InstrId, LclInstrm, DtOfSgntr}
use Rattle.profile.specs.Fields.{same_field}
use Rattle.reading.specs.Trace.{What, item_begins, item_ends, there, absent, value, Entry, ◌at◌}
use Rattle.reading.specs.Rules.{gathered, of_kind, values_of, of_field, values_at}
use Rattle.reading.specs.Judged.{whats}
use Rattle.reading.proofs.Lists.{values_append, at_append}
use Rattle.reading.specs.Verdict.{lies}
use Rattle.reading.specs.Items.{Item, or_end, up_to_end, end_or, next_end, item_or, items_of, item_from, or_item, header_in}
use Rattle.postings.specs.Record.{record_for}
use Rattle.postings.specs.Area.{records_for}
use Rattle.replaced.proofs.Near.{Near, none, like, changed, Unlike}

-- the fields of a posting record, and whether a field is none of some
abbrev pub recorded_fields : List Field
recorded_fields = TxId ∷ EndToEndId ∷ MndtId ∷ DbtrIban ∷ CdtrIban ∷ DbtrBic ∷ ReqdColltnDt ∷ SeqTp ∷ CdtrId ∷ CdtrBic ∷ InstrId ∷ LclInstrm ∷ DtOfSgntr ∷ []

abbrev pub none_of : List Field → Field → Bool
none_of [] f = true
none_of (g ∷ l) f = both (not (same_field f g)) (none_of l f)

pub none_at : (l : List Field) (f : Field) → none_of l f ≡ true → (i : ℕ) → i < length l → same_field f (get_or l i TxId) ≡ false
none_at [] f e i h = never (omega arith)
none_at (g ∷ l) f e zero h = not-true (same_field f g) (both_true (not (same_field f g)) (none_of l f) e).0
none_at (g ∷ l) f e (suc i) h = none_at l f (both_true (not (same_field f g)) (none_of l f) e).1 i (omega arith)

abbrev one_from : ℕ → List Entry → Item
one_from p l = record { from = p; to = next_end l; holds = up_to_end l }

-- two lists that give the same amounts and the same values of a record's fields
pub record Recorded (a b : List What) : Type 0 where
  pub cents : values_of Amount a ≡ values_of Amount b
  pub values : (i : ℕ) → i < length recorded_fields → values_at (get_or recorded_fields i TxId) a ≡ values_at (get_or recorded_fields i TxId) b

recorded_both : {a b c d : List What} → Recorded a b → Recorded c d → Recorded (a ++ c) (b ++ d)
recorded_both {a} {b} {c} {d} h k = record {
  cents = values_append Amount a c ∙ (rw (h.cents, k.cents) (sym (values_append Amount b d)));
  values = λ i l. let g = get_or recorded_fields i TxId in at_append g a c ∙ (rw (h.values i l, k.values i l) (sym (at_append g b d)));
}

same_record : {a b : List What} → Recorded a b → record_for a ≡ record_for b
unfolding record_for
same_record n =
    rw (
      n.cents,
      n.values 0 (omega arith),
      n.values 1 (omega arith),
      n.values 2 (omega arith),
      n.values 3 (omega arith),
      n.values 4 (omega arith),
      n.values 5 (omega arith),
      n.values 6 (omega arith),
      n.values 7 (omega arith),
      n.values 8 (omega arith),
      n.values 9 (omega arith),
      n.values 10 (omega arith),
      n.values 11 (omega arith),
      n.values 12 (omega arith),
    )

module _ (Fit : Kind → Field → Type 0) (v w : List ℕ) (unrecorded : (k : Kind) (f : Field) → Fit k f → none_of recorded_fields f ≡ true) (amounts : Unlike Fit v w Amount) where
  -- ---- where an item ends, and what it holds
  near-end : {l l' : List Entry} → Near Fit v w l l' → next_end l ≡ next_end l'
  near-end none = refl
  near-end (like e n) = ap (end_or e.what e.place) (near-end n)
  near-end (changed f n) = near-end n

  -- anything that is told of a list one by one, and is told alike of such values: of what stands up to the end of an item, and of what stands before the first one
  module _ (F : What → List (List ℕ)) (swap : (k : Kind) (f : Field) → Fit k f → F (value k f v) ≡ F (value k f w)) where
    more : (x : What) (a b : List What) → gathered F a ≡ gathered F b → gathered F (x ∷ a) ≡ gathered F (x ∷ b)
    more x a b h = ap (λ (y : List (List ℕ)). F x ++ y) h

    other : {k : Kind} {f : Field} → Fit k f → (a b : List What) → gathered F a ≡ gathered F b → gathered F (value k f v ∷ a) ≡ gathered F (value k f w ∷ b)
    other {k} {f} x a b h = rw (swap k f x, h)

    near-held : {l l' : List Entry} → Near Fit v w l l' → gathered F (up_to_end l) ≡ gathered F (up_to_end l')
    near-held none = refl
    near-held (like e {l = l} {l' = l'} n) = go e.what (near-held n)
      where
        go : (x : What) → gathered F (up_to_end l) ≡ gathered F (up_to_end l') → gathered F (or_end x (up_to_end l)) ≡ gathered F (or_end x (up_to_end l'))
        go item_begins h = more item_begins (up_to_end l) (up_to_end l') h
        go item_ends h = refl
        go (there i) h = more (there i) (up_to_end l) (up_to_end l') h
        go (absent i) h = more (absent i) (up_to_end l) (up_to_end l') h
        go (value k f u) h = more (value k f u) (up_to_end l) (up_to_end l') h
    near-held (changed {l = l} {l' = l'} x n) = other x (up_to_end l) (up_to_end l') (near-held n)

    near-above : {l l' : List Entry} → Near Fit v w l l' → gathered F (header_in (whats l)) ≡ gathered F (header_in (whats l'))
    near-above none = refl
    near-above (like e {l = l} {l' = l'} n) = go e.what (near-above n)
      where
        go : (x : What) → gathered F (header_in (whats l)) ≡ gathered F (header_in (whats l')) → gathered F (or_item x (header_in (whats l))) ≡ gathered F (or_item x (header_in (whats l')))
        go item_begins h = refl
        go item_ends h = more item_ends (header_in (whats l)) (header_in (whats l')) h
        go (there i) h = more (there i) (header_in (whats l)) (header_in (whats l')) h
        go (absent i) h = more (absent i) (header_in (whats l)) (header_in (whats l')) h
        go (value k f u) h = more (value k f u) (header_in (whats l)) (header_in (whats l')) h
    near-above (changed {l = l} {l' = l'} x n) = other x (header_in (whats l)) (header_in (whats l')) (near-above n)

  no-amount : (k : Kind) (f : Field) → Fit k f → of_kind Amount (value k f v) ≡ of_kind Amount (value k f w)
  no-amount k f x = rw (amounts k f x)

  no_field : (i : ℕ) → i < length recorded_fields → (k : Kind) (f : Field) → Fit k f → of_field (get_or recorded_fields i TxId) (value k f v) ≡ of_field (get_or recorded_fields i TxId) (value k f w)
  no_field i h k f x = rw (none_at recorded_fields f (unrecorded k f x) i h)

  held-alike : {l l' : List Entry} → Near Fit v w l l' → Recorded (up_to_end l) (up_to_end l')
  held-alike n = record {
    cents = near-held (of_kind Amount) no-amount n;
    values = λ i h. near-held (of_field (get_or recorded_fields i TxId)) (no_field i h) n;
  }

  pub above_alike : {l l' : List Entry} → Near Fit v w l l' → Recorded (header_in (whats l)) (header_in (whats l'))
  above_alike n = record {
    cents = near-above (of_kind Amount) no-amount n;
    values = λ i h. near-above (of_field (get_or recorded_fields i TxId)) (no_field i h) n;
  }

  -- ---- the items
  pub near_item : (i : ℕ) {l l' : List Entry} → Near Fit v w l l' → item_from i (items_of l) ≡ item_from i (items_of l')
  near_item i none = refl
  near_item i (like e {l = l} {l' = l'} n) = go e.what i (λ j. near_item j n)
    where
      go : (x : What) (i : ℕ) → ((j : ℕ) → item_from j (items_of l) ≡ item_from j (items_of l'))
          → item_from i (item_or x (one_from e.place l) (items_of l)) ≡ item_from i (item_or x (one_from e.place l') (items_of l'))
      go item_begins zero h = ap (lies e.place) (near-end n)
      go item_begins (suc i) h = h i
      go item_ends i h = h i
      go (there s) i h = h i
      go (absent s) i h = h i
      go (value k f u) i h = h i
  near_item i (changed f n) = near_item i n

  pub near_records : {h h' : List What} → Recorded h h' → {l l' : List Entry} → Near Fit v w l l' → records_for h (items_of l) ≡ records_for h' (items_of l')
  near_records r none = refl
  near_records {h} {h'} r (like e {l = l} {l' = l'} n) = go e.what (near_records r n)
    where
      go : (x : What) → records_for h (items_of l) ≡ records_for h' (items_of l')
          → records_for h (item_or x (one_from e.place l) (items_of l)) ≡ records_for h' (item_or x (one_from e.place l') (items_of l'))
      go item_begins k = rw (same_record (recorded_both r (held-alike n)), k)
      go item_ends k = k
      go (there s) k = k
      go (absent s) k = k
      go (value i f u) k = k
  near_records r (changed f n) = near_records r n
