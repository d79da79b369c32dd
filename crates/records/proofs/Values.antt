-- What lies at the places that were noted of an item, and of the whole message above it, is what the item's record holds.
use mathlib.Core.Path.{◌≡◌, refl, sym, ap, ◌∙◌}
use mathlib.Core.Bool.{Bool, true}
use mathlib.Core.List.{List, [], ◌∷◌, ◌++◌}
use Prim.Native.Nat.{ℕ, ◌<◌}
use native.Mathlib.Omega.{arith}
use borrow.Author.Tests.{eqb-true}
use lib.Dec.{eqb}
use lib.ListN.{length, get_or-append}
use lib.Seq.{get_or_at}
use Rattle.text.specs.Truth.{both}
use Rattle.text.proofs.Truths.{both_true}
use Rattle.money.specs.Amount.{cents}
use Rattle.profile.specs.declared.Kind.TheVariants.{Amount}
use Rattle.profile.specs.declared.Field.{Field}
use Rattle.profile.specs.declared.Field.TheVariants.{TxId, EndToEndId, MndtId, DbtrIban, CdtrIban, DbtrBic, ReqdColltnDt, SeqTp, CdtrId, CdtrBic, InstrId, LclInstrm, DtOfSgntr}
use Rattle.profile.specs.declared.Version.{Version}
use Rattle.profile.specs.declared.Version.TheVariants.{V02, V08}
use Rattle.profile.specs.Fields.{field_number}
use Rattle.profile.specs.Listed.{many_fields}
use Rattle.profile.specs.Profile.{in_header}
use Rattle.profile.proofs.Fields.{number_below}
use Rattle.reading.specs.Trace.{Entry, message}
use Rattle.reading.specs.Noted.{noted}
use Rattle.reading.specs.Rules.{values_at, values_of}
use Rattle.reading.specs.Verdict.{accepted}
use Rattle.reading.specs.Judged.{whats, last_of, listed, judged}
use Rattle.reading.specs.Items.{Item, notes_of, the_header, the_items}
use Rattle.reading.proofs.Lists.{at_append, values_append}
use Rattle.reading.proofs.Each.{AllIn}
use Rattle.postings.specs.Record.{record_with, value_for, cents_for, record_for}
use Rattle.documents.proofs.Often.{a_kind, a_field, times, fixed}
use Rattle.items.specs.Chain.{Stands, around}
use Rattle.items.specs.Places.{field_place, held_at}
use Rattle.items.proofs.Places.{noted_of, item_held, item_or_held, accepted_held}
use Rattle.bulks.specs.Accepted.{Bulked}
use Rattle.bulks.proofs.Trees.{accepted_bulk}
use Rattle.bulks.proofs.Typed.{InEach, instrument, sequence, only_above, none_above, no_kind_above}
use Rattle.notes.specs.declared.Notes.{Notes}
use Rattle.notes.proofs.Sums.{Summed}
use Rattle.engine.specs.Several.{row_of}
use Rattle.records.specs.Engine.{start_of, own_or, cents_of, place_for, record_of}

-- ---- the fields of a record that stand in no header, and the amount
abbrev Below : Version → Field → Type 0
Below v f = (fixed (a_field f) (in_header v) ≡ true) × (times (a_field f) (in_header v) ≡ 0)

abbrev own : List Field
own = TxId ∷ EndToEndId ∷ MndtId ∷ DbtrIban ∷ CdtrIban ∷ DbtrBic ∷ ReqdColltnDt ∷ CdtrId ∷ CdtrBic ∷ InstrId ∷ DtOfSgntr ∷ []

abbrev below : Version → List Field → Bool
below v [] = true
below v (f ∷ l) = both (fixed (a_field f) (in_header v)) (both (eqb (times (a_field f) (in_header v)) 0) (below v l))

own_below : (v : Version) → below v own ≡ true
unfolding in_header
own_below V02 = refl
own_below V08 = refl

each_below : (v : Version) (l : List Field) → below v l ≡ true → AllIn (Below v) l
each_below v [] e = tt
each_below v (f ∷ l) e =
    let a = both_true (fixed (a_field f) (in_header v)) (both (eqb (times (a_field f) (in_header v)) 0) (below v l)) e in
    let b = both_true (eqb (times (a_field f) (in_header v)) 0) (below v l) a.1 in
    ((a.0, eqb-true (times (a_field f) (in_header v)) 0 b.0), each_below v l b.1)

all_below : (v : Version) → AllIn (Below v) own
all_below v = each_below v own (own_below v)

pub amount_below : (v : Version) → (fixed (a_kind Amount) (in_header v) ≡ true) × (times (a_kind Amount) (in_header v) ≡ 0)
unfolding in_header
amount_below V02 = (refl, refl)
amount_below V08 = (refl, refl)

-- ---- two records of the same values
same_record : (u w : Field → List ℕ) (c d : ℕ) → c ≡ d → AllIn (λ f. u f ≡ w f) own → u SeqTp ≡ w SeqTp → u LclInstrm ≡ w LclInstrm → record_with u c ≡ record_with w d
same_record u w c d e h s l =
    rw (
      e,
      h.0,
      h.1.0,
      h.1.1.0,
      h.1.1.1.0,
      h.1.1.1.1.0,
      h.1.1.1.1.1.0,
      h.1.1.1.1.1.1.0,
      h.1.1.1.1.1.1.1.0,
      h.1.1.1.1.1.1.1.1.0,
      h.1.1.1.1.1.1.1.1.1.0,
      h.1.1.1.1.1.1.1.1.1.1.0,
      s,
      l,
    )

-- ---- the last of two lists
last_append : (d : List ℕ) (a b : List (List ℕ)) → last_of d (a ++ b) ≡ last_of (last_of d a) b
last_append d [] b = refl
last_append d (v ∷ a) b = last_append v a b

last_same : (a b l : List (List ℕ)) → (l ≡ [] → a ≡ b) → last_of (last_of [] a) l ≡ last_of (last_of [] b) l
last_same a b [] e = ap (λ (x : List (List ℕ)). last_of [] x) (e refl)
last_same a b (v ∷ l) e = refl

-- ---- a row holds what was noted
module _ (n : Notes) (l : length n.starts ≡ many_fields) where
  row-start : (f : Field) → start_of (row_of n) f ≡ start_of n.starts f
  row-start f =
      let h : field_number f < length n.starts = omega (arith, number_below f, l) in
      get_or-append n.starts (n.cents ∷ []) 0 (field_number f) h

  row-cents : cents_of (row_of n) ≡ n.cents
  row-cents = get_or_at n.starts n.cents [] 0 many_fields l

-- ---- an item of an accepted message
module _ (m : List ℕ) (count cents' : ℕ) (e : judged m ≡ accepted count cents') (v : Version) (p : ℕ) (x : Item) (s : Stands v m p x) (before after : List Item) (is : the_items m ≡ before ++ (x ∷ after)) where
  abbrev k : Bulked m
  k = accepted_bulk m count cents' e

  abbrev all : List Entry
  all = notes_of (noted listed (message m) [])

  abbrev in_record : Field → List ℕ
  in_record = value_for (the_header m ++ x.holds)

  value_is : (f : Field) → in_record f ≡ last_of (last_of [] (values_at f (the_header m))) (values_at f x.holds)
  value_is f = ap (λ (l : List (List ℕ)). last_of [] l) (at_append f (the_header m) x.holds) ∙ last_append [] (values_at f (the_header m)) (values_at f x.holds)

  -- a field that stands in no header: the item's own
  own_is : (f : Field) → Below k.version f → held_at m (field_place f (around x s.inner)) ≡ in_record f
  own_is f b = item_held m f s ∙ (sym (ap (λ (l : List (List ℕ)). last_of (last_of [] l) (values_at f x.holds)) (none_above m count cents' e k f b.0 b.1)) ∙ sym (value_is f))

  -- one that stands in the header or in each item: the item's own, or else the only one in the message
  wherever-is : (f : Field) → InEach f → held_at m (own_or (field_place f all) (field_place f (around x s.inner))) ≡ in_record f
  wherever-is f i =
      item_or_held m f s (field_place f all)
      ∙ (ap (λ (v : List ℕ). last_of v (values_at f x.holds)) (accepted_held m f count cents' e)
      ∙ (last_same (values_at f (whats all)) (values_at f (the_header m)) (values_at f x.holds) (only_above m count cents' e k f i before after x is) ∙ sym (value_is f)))

  cents_is : cents (last_of [] (values_of Amount (whats (around x s.inner)))) ≡ cents_for (the_header m ++ x.holds)
  cents_is =
      let b = amount_below k.version in
      let h : values_of Amount (the_header m ++ x.holds) ≡ values_of Amount x.holds =
      values_append Amount (the_header m) x.holds ∙ ap (λ (l : List (List ℕ)). l ++ values_of Amount x.holds) (no_kind_above m count cents' e k Amount b.0 b.1) in
      ap (λ (l : List (List ℕ)). cents (last_of [] l)) (noted_of s Amount ∙ sym h)

  -- the record of what was noted of it and of the message is the record of what it holds and what the header says
  module _ (n : Notes) (above : List ℕ) (u : Summed (around x s.inner) n) where
    its : (f : Field) → Below k.version f → held_at m (start_of (row_of n) f) ≡ in_record f
    its f b = ap (held_at m) (row-start n u.long f ∙ u.starts f) ∙ own_is f b

    pub from_wherever : (f : Field) → InEach f → start_of above f ≡ field_place f all → held_at m (own_or (start_of above f) (start_of n.starts f)) ≡ in_record f
    from_wherever f i q =
        ap (λ (k : ℕ). held_at m (own_or k (start_of n.starts f))) q ∙ (ap (λ (k : ℕ). held_at m (own_or (field_place f all) k)) (u.starts f) ∙ wherever-is f i)

    pub its_cents : n.cents ≡ cents_for (the_header m ++ x.holds)
    its_cents = u.cents ∙ cents_is

    told-wherever : (f : Field) → InEach f → start_of above f ≡ field_place f all → held_at m (own_or (start_of above f) (start_of (row_of n) f)) ≡ in_record f
    told-wherever f i q = ap (λ (k : ℕ). held_at m (own_or (start_of above f) k)) (row-start n u.long f) ∙ from_wherever f i q

    pub record_is : start_of above SeqTp ≡ field_place SeqTp all → start_of above LclInstrm ≡ field_place LclInstrm all → record_of m (row_of n) above ≡ record_for (the_header m ++ x.holds)
    unfolding record_of record_for
    record_is q r =
        let h = all_below k.version in
        same_record (λ f. held_at m (place_for above (row_of n) f)) in_record (cents_of (row_of n)) (cents_for (the_header m ++ x.holds)) (row-cents n u.long ∙ its_cents) (
          its TxId h.0,
          (
            its EndToEndId h.1.0,
            (
              its MndtId h.1.1.0,
              (
                its DbtrIban h.1.1.1.0,
                (
                  its CdtrIban h.1.1.1.1.0,
                  (
                    its DbtrBic h.1.1.1.1.1.0,
                    (
                      its ReqdColltnDt h.1.1.1.1.1.1.0,
                      (
                        its CdtrId h.1.1.1.1.1.1.1.0,
                        (
                          its CdtrBic h.1.1.1.1.1.1.1.1.0,
                          (its InstrId h.1.1.1.1.1.1.1.1.1.0, (its DtOfSgntr h.1.1.1.1.1.1.1.1.1.1.0, tt)),
                        ),
                      ),
                    ),
                  ),
                ),
              ),
            ),
          ),
        )
        (told-wherever SeqTp sequence q) (told-wherever LclInstrm instrument r)
