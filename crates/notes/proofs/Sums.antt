-- The code's notes are the sum of the list: noting an entry in the one and in the other goes alike, but for the rule of 24, which the notes do not ask.
use mathlib.Core.Path.{◌≡◌, refl, sym, ap, subst, ◌∙◌}
use mathlib.Core.Bool.{Bool, true, false}
use mathlib.Core.List.{List, [], ◌∷◌, ◌++◌, append-nil}
use Prim.Native.Nat.{ℕ, zero, suc, ◌+◌}
use Prim.Native.String.{String}
use native.Mathlib.Nat.{zero-add}
use native.Mathlib.Omega.{arith}
use borrow.Author.Tests.{eqb-true, eqb-false, ne_eqb}
use lib.Dec.{eqb, ltb}
use lib.ListN.{length, get_or, replicate, length-set}
use lib.Seq.{get_or-set_same, get_or-set_other}
use Rattle.std.specs.Prelude.{Option, None, Some}
use Rattle.text.specs.Truth.{pick, between}
use Rattle.text.specs.Quoted.{bytes, alike, is, decimal}
use Rattle.answers.specs.Given.{Given, yes, worth, refused as no, ◌else◌, in_order}
use Rattle.codes.specs.declared.Element.TheVariants.{SttlmMtd, SvcLvl, LclInstrm, SeqTp, ChrgBr, Prtry}
use Rattle.codes.specs.Listed.{or_else, code_given}
use Rattle.money.specs.declared.Range.TheVariants.{Item as an_item, Total as the_total}
use Rattle.money.specs.Count.{count_form, count_given}
use Rattle.money.specs.Amount.{amount_form, cents as worth_of, most, amount_given}
use Rattle.profile.specs.declared.Kind.{Kind}
use Rattle.profile.specs.declared.Kind.TheVariants.{Plain, Count, Total, Amount, Code}
use Rattle.profile.specs.declared.Field.{Field}
use Rattle.profile.specs.Limits.{most_items}
use Rattle.profile.specs.Fields.{field_number, same_field}
use Rattle.profile.specs.Listed.{many_fields}
use Rattle.profile.specs.Kinds.{same_kind}
use Rattle.profile.specs.Profile.{is_type}
use Rattle.profile.proofs.Fields.{number_below}
use Rattle.kinds.specs.Given.{simple_given}
use Rattle.reading.specs.Trace.{What, item_begins, item_ends, there, absent, value, Entry, ◌at◌}
use Rattle.reading.specs.Noted.{on, stop, onward}
use Rattle.reading.specs.Rules.{begun as one, items_in, of_kind, values_of, of_field, sum_of, cents_in, of_type, types_in, first_of, ◌so◌, unlike_first, fitting}
use Rattle.reading.specs.Judged.{whats, or_refused, last_of, only_of, place_in, place_of}
use Rattle.reading.proofs.Lists.{whats_append, items_append, values_append, types_append, sum_append, place_append, last_more, alike_itself, alike_same}
use Rattle.reading.proofs.Flat.{never}
use Rattle.reading.proofs.More.{lenient}
use Rattle.reading.proofs.Simulates.{Alike, going, stopped, Keeps}
use Rattle.items.specs.Alone.{begin_or, first_in}
use Rattle.items.specs.Places.{field_from, field_place}
use Rattle.notes.specs.declared.Notes.{Notes}
use Rattle.notes.specs.Notes.{fresh, with_item, with_number, with_total, with_type, with_cents, with_service, started, with_start}
use Rattle.notes.specs.Notes.{added_up, may_follow, service_kept, on_given, value_noted, item_noted, type_refusal, unsaid, said_by, type_noted, in_notes}

-- ---- two codes that are listed are the same bytes where they stand at the same place
code_same : (w v : List ℕ) (j i : ℕ) → code_given LclInstrm w ≡ worth j → code_given LclInstrm v ≡ worth i → alike w v ≡ eqb j i
unfolding code_given
code_same w v j i = first (is "CORE" w) (is "B2B" w) refl refl
  where
    then : (t : List ℕ) (n : ℕ) (b c : Bool) → is "CORE" v ≡ b → is "B2B" v ≡ c → or_else b 0 (or_else c 1 (no 10)) ≡ worth i
        → alike t (bytes "CORE") ≡ eqb n 0 → (is "CORE" v ≡ false → is "B2B" v ≡ true → alike t v ≡ eqb n 1) → alike t v ≡ eqb n i
    then t n true c p q e h g =
        let z : i ≡ 0 = cc in
        rw (z, ← alike_same (bytes "CORE") v p) h
    then t n false true p q e h g =
        let z : i ≡ 1 = cc in
        rw z (g p q)
    then t n false false p q e h g = never (cc)

    first : (b c : Bool) → is "CORE" w ≡ b → is "B2B" w ≡ c → or_else b 0 (or_else c 1 (no 10)) ≡ worth j
        → or_else (is "CORE" v) 0 (or_else (is "B2B" v) 1 (no 10)) ≡ worth i → alike w v ≡ eqb j i
    first true c p q e d =
        let z : j ≡ 0 = cc in
        rw (z, ← alike_same (bytes "CORE") w p) (then (bytes "CORE") 0 (is "CORE" v) (is "B2B" v) refl refl d refl (λ x y. x))
    first false true p q e d =
        let z : j ≡ 1 = cc in
        rw (z, ← alike_same (bytes "B2B") w q) (then (bytes "B2B") 1 (is "CORE" v) (is "B2B" v) refl refl d refl (λ x y. y))
    first false false p q e d = never (cc)

-- a code has a worth
code_no : (v : List ℕ) → code_given LclInstrm v ≡ yes → ◌≡◌ {A = ℕ} 0 1
unfolding code_given
code_no v = go (is "CORE" v) (is "B2B" v)
  where
    go : (a b : Bool) → or_else a 0 (or_else b 1 (no 10)) ≡ yes → ◌≡◌ {A = ℕ} 0 1
    go true b e = cc
    go false true e = cc
    go false false e = cc

-- ---- what the notes hold
-- no service yet; or the first one's, by its place in its list
abbrev pub Served : List (List ℕ) → Option ℕ → Type 0
Served [] n = n ≡ None
Served (w ∷ l) n = (i : ℕ) × (code_given LclInstrm w ≡ worth i) × (n ≡ Some i)

-- what is said first of the payment type
abbrev pub typed_by : List Bool → Option Bool
typed_by [] = None
typed_by (b ∷ l) = Some b

abbrev lcl_instrm : Kind
lcl_instrm = Code LclInstrm

pub record Summed (es : List Entry) (n : Notes) : Type 0 where
  pub count : n.count ≡ items_in (whats es)
  pub first : n.first ≡ first_in es
  pub cents : n.cents ≡ worth_of (only_of Amount es)
  pub sum : n.sum ≡ cents_in (whats es)
  pub number : n.number ≡ decimal (only_of Count es)
  pub numberat : n.numberat ≡ place_of Count es
  pub total : n.total ≡ worth_of (only_of Total es)
  pub totalat : n.totalat ≡ place_of Total es
  pub typed : n.typed ≡ typed_by (types_in (whats es))
  pub service : Served (values_of lcl_instrm (whats es)) n.service
  pub long : length n.starts ≡ many_fields
  pub starts : (f : Field) → get_or n.starts (field_number f) 0 ≡ field_place f es

zeros : (f : Field) → get_or fresh.starts (field_number f) 0 ≡ 0
zeros f = go many_fields (field_number f)
  where
    go : (n i : ℕ) → get_or {A = ℕ} (replicate n 0) i 0 ≡ 0
    go zero i = refl
    go (suc n) zero = refl
    go (suc n) (suc i) = go n i

pub summed_fresh : Summed [] fresh
unfolding decimal worth_of
summed_fresh = record {
  count = refl;
  first = refl;
  cents = refl;
  sum = refl;
  number = refl;
  numberat = refl;
  total = refl;
  totalat = refl;
  typed = refl;
  service = refl;
  long = refl;
  starts = zeros;
}

-- ---- one entry more
module _ (es : List Entry) (e : Entry) where
  abbrev more : List Entry
  more = es ++ (e ∷ [])

  said_more : whats more ≡ whats es ++ (e.what ∷ [])
  said_more = whats_append es (e ∷ [])

  items_more : items_in (whats more) ≡ items_in (whats es) + one e.what
  items_more = omega (arith, ap items_in said_more, items_append (whats es) (e.what ∷ []))

  values_more : (k : Kind) → values_of k (whats more) ≡ values_of k (whats es) ++ of_kind k e.what
  values_more k = ap (values_of k) said_more ∙ (values_append k (whats es) (e.what ∷ []) ∙ ap (λ (l : List (List ℕ)). values_of k (whats es) ++ l) (append-nil (of_kind k e.what)))

  types_more : types_in (whats more) ≡ types_in (whats es) ++ of_type e.what
  types_more = ap types_in said_more ∙ (types_append (whats es) (e.what ∷ []) ∙ ap (λ (l : List Bool). types_in (whats es) ++ l) (append-nil (of_type e.what)))

  -- an entry that says nothing of the payment type
  types_same : of_type e.what ≡ [] → types_in (whats more) ≡ types_in (whats es)
  types_same h = types_more ∙ rw h (append-nil (types_in (whats es)))

  place_more : (k : Kind) → place_of k more ≡ place_in (of_kind k e.what) e.place (place_of k es)
  place_more k = place_append k es (e ∷ []) 0

  field-more : (f : Field) → field_place f more ≡ place_in (of_field f e.what) e.place (field_place f es)
  field-more f = go 0 es
    where
      go : (q : ℕ) (l : List Entry) → field_from q f (l ++ (e ∷ [])) ≡ place_in (of_field f e.what) e.place (field_from q f l)
      go q [] = refl
      go q (x ∷ l) = go (place_in (of_field f x.what) x.place q) l

-- where the first item begins: an item more, or anything else
first_item : (es : List Entry) (p : ℕ) → first_in (es ++ ((item_begins at p) ∷ [])) ≡ pick (eqb (items_in (whats es)) 0) p (first_in es)
first_item [] p = refl
first_item (x ∷ l) p = go x.what (first_item l p)
  where
    go : (w : What) → first_in (l ++ ((item_begins at p) ∷ [])) ≡ pick (eqb (items_in (whats l)) 0) p (first_in l)
        → begin_or w x.place (first_in (l ++ ((item_begins at p) ∷ []))) ≡ pick (eqb (one w + items_in (whats l)) 0) p (begin_or w x.place (first_in l))
    go item_begins h = rw (ne_eqb (1 + items_in (whats l)) 0 (λ e. omega arith))
    go item_ends h = rw (zero-add (items_in (whats l))) h
    go (there n) h = rw (zero-add (items_in (whats l))) h
    go (absent n) h = rw (zero-add (items_in (whats l))) h
    go (value k f v) h = rw (zero-add (items_in (whats l))) h

first_other : (es : List Entry) (e : Entry) → one e.what ≡ 0 → first_in (es ++ (e ∷ [])) ≡ first_in es
first_other [] e h = go e.what h
  where
    go : (w : What) → one w ≡ 0 → begin_or w e.place 0 ≡ 0
    go item_begins h = never (sym h)
    go item_ends h = refl
    go (there n) h = refl
    go (absent n) h = refl
    go (value k f v) h = refl
first_other (x ∷ l) e h = ap (begin_or x.what x.place) (first_other l e h)

module _ (es : List Entry) (n : Notes) (r : Summed es n) where
  item-keeps : (p : ℕ) → Alike Summed (lenient (item_begins at p) es) (in_notes (item_begins at p) n)
  unfolding item_noted
  item-keeps p = rw (← r.count) (go (ltb n.count most_items))
    where
      e : Entry
      e = item_begins at p

      same : (k : Kind) → values_of k (whats (es ++ (e ∷ []))) ≡ values_of k (whats es)
      same k = values_more es e k ∙ append-nil (values_of k (whats es))

      told : Summed (es ++ (e ∷ [])) (with_item p n)
      told =
          record {
            count = omega (arith, items_more es e, r.count);
            first = rw (first_item es p, ← r.count, r.first);
            cents = rw (same Amount) r.cents;
            sum = rw (same Amount) r.sum;
            number = rw (same Count) r.number;
            numberat = rw (place_more es e Count) r.numberat;
            total = rw (same Total) r.total;
            totalat = rw (place_more es e Total) r.totalat;
            typed = rw (types_same es e refl) r.typed;
            service = rw (same lcl_instrm) r.service;
            long = r.long;
            starts = λ f. rw (field-more es e f) (r.starts f);
          }

      go : (b : Bool) → Alike Summed (or_refused (in_order (b else 12 ∷ []) yes) p (es ++ (e ∷ []))) (pick b (on (with_item p n)) (stop 12 p))
      go true = going told
      go false = stopped

  -- an entry that says nothing but of the payment type
  mark-keeps : (e : Entry) → one e.what ≡ 0 → ((k : Kind) → of_kind k e.what ≡ []) → ((f : Field) → of_field f e.what ≡ [])
      → (i : Option Bool) → i ≡ typed_by (types_in (whats es) ++ of_type e.what) → Summed (es ++ (e ∷ [])) (with_type i n)
  mark-keeps e z v w i t =
      record {
        count = omega (arith, items_more es e, r.count);
        first = rw (first_other es e z) r.first;
        cents = rw (same Amount) r.cents;
        sum = rw (same Amount) r.sum;
        number = rw (same Count) r.number;
        numberat = rw (place_more es e Count, v Count) r.numberat;
        total = rw (same Total) r.total;
        totalat = rw (place_more es e Total, v Total) r.totalat;
        typed = rw (types_more es e) t;
        service = rw (same lcl_instrm) r.service;
        long = r.long;
        starts = λ f. rw (field-more es e f, w f) (r.starts f);
      }
    where
      same : (k : Kind) → values_of k (whats (es ++ (e ∷ []))) ≡ values_of k (whats es)
      same k = values_more es e k ∙ rw (v k) (append-nil (values_of k (whats es)))

  -- nothing is said of the payment type
  still-typed : n.typed ≡ typed_by (types_in (whats es) ++ [])
  still-typed = r.typed ∙ ap typed_by (sym (append-nil (types_in (whats es))))

  ended-keeps : (p : ℕ) → Summed (es ++ ((item_ends at p) ∷ [])) n
  ended-keeps p = mark-keeps (item_ends at p) refl (λ k. refl) (λ f. refl) n.typed still-typed

  -- an element that is 0 or 1 is there, or absent: of the payment type it is said
  module _ (s : String) (p : ℕ) where
    abbrev saying : Bool → Entry
    saying true = there s at p
    saying false = absent s at p

    said-keeps : (b c : Bool) → is_type s ≡ c → (i : Option Bool) → i ≡ typed_by (types_in (whats es) ++ pick c (b ∷ []) []) → Summed (es ++ (saying b ∷ [])) (with_type i n)
    said-keeps true c h i t = mark-keeps (there s at p) refl (λ k. refl) (λ f. refl) i (rw h t)
    said-keeps false c h i t = mark-keeps (absent s at p) refl (λ k. refl) (λ f. refl) i (rw h t)

    abbrev Says : Bool → Bool → List Bool → Option Bool → Type 0
    Says b c ts i =
        Alike Summed (or_refused (in_order ((c so unlike_first b ts) else type_refusal b ∷ []) yes) p (es ++ (saying b ∷ [])))
        (pick c (pick (unsaid i b) (on (with_type (said_by i b) n)) (stop (type_refusal b) p)) (on n))

    type_keeps : (b : Bool) → Says b (is_type s) (types_in (whats es)) n.typed
    type_keeps b = go (is_type s) refl
      where
        first : is_type s ≡ true → (ts : List Bool) → types_in (whats es) ≡ ts → (b : Bool) → Says b true ts (typed_by ts)
        first h [] e b = going (said-keeps b true h (Some b) (rw e))
        first h (true ∷ l) e true = stopped
        first h (true ∷ l) e false = going (said-keeps false true h (Some true) (rw e))
        first h (false ∷ l) e true = going (said-keeps true true h (Some false) (rw e))
        first h (false ∷ l) e false = stopped

        go : (c : Bool) → is_type s ≡ c → Says b c (types_in (whats es)) n.typed
        go true h = subst (λ (i : Option Bool). Says b true (types_in (whats es)) i) (sym r.typed) (first h (types_in (whats es)) refl b)
        go false h = going (said-keeps b false h n.typed still-typed)

  -- a value more, which its kind and then the rules let pass
  module _ (f : Field) (p : ℕ) (v : List ℕ) where
    abbrev entry : Kind → Entry
    entry k = value k f v at p

    -- what a value of the kind adds to the values of a kind
    with : (j k : Kind) → values_of j (whats (es ++ (entry k ∷ []))) ≡ values_of j (whats es) ++ pick (same_kind k j) (v ∷ []) []
    with j k = values_more es (entry k) j

    -- where values of each field begin, with one more
    starts_more : (k : Kind) (g : Field) → get_or (started f p n.starts) (field_number g) 0 ≡ field_place g (es ++ (entry k ∷ []))
    starts_more k g = rw (field-more es (entry k) g) (go (same_field f g) refl)
      where
        go : (b : Bool) → same_field f g ≡ b → get_or (started f p n.starts) (field_number g) 0 ≡ place_in (pick b (v ∷ []) []) p (field_place g es)
        go true e =
            rw (← eqb-true (field_number f) (field_number g) e)
            (get_or-set_same n.starts (field_number f) p 0 (omega (arith, r.long, number_below f)))
        go false e =
            get_or-set_other n.starts (field_number f) (field_number g) p 0 (λ z. eqb-false (field_number f) (field_number g) e (sym z)) ∙ r.starts g

    abbrev Keeping : Kind → Type 0
    Keeping k = Alike Summed (lenient (entry k) es) (in_notes (entry k) n)

    -- all but what the kind decides stays
    module _ (k : Kind) where
      abbrev next : List Entry
      next = es ++ (entry k ∷ [])

      kept-summed : (u : Notes)
          → u.count ≡ n.count → u.first ≡ n.first → u.typed ≡ n.typed → u.starts ≡ n.starts
          → u.cents ≡ worth_of (last_of [] (values_of Amount (whats es) ++ pick (same_kind k Amount) (v ∷ []) []))
          → u.sum ≡ sum_of (values_of Amount (whats es) ++ pick (same_kind k Amount) (v ∷ []) [])
          → u.number ≡ decimal (last_of [] (values_of Count (whats es) ++ pick (same_kind k Count) (v ∷ []) []))
          → u.numberat ≡ place_in (pick (same_kind k Count) (v ∷ []) []) p (place_of Count es)
          → u.total ≡ worth_of (last_of [] (values_of Total (whats es) ++ pick (same_kind k Total) (v ∷ []) []))
          → u.totalat ≡ place_in (pick (same_kind k Total) (v ∷ []) []) p (place_of Total es)
          → Served (values_of lcl_instrm (whats es) ++ pick (same_kind k lcl_instrm) (v ∷ []) []) u.service
          → Summed next (with_start f p u)
      kept-summed u c b d s x y a i t j w =
          record {
            count = c ∙ omega (arith, items_more es (entry k), r.count);
            first = b ∙ (r.first ∙ sym (first_other es (entry k) refl));
            cents = x ∙ ap (λ (l : List (List ℕ)). worth_of (last_of [] l)) (sym (with Amount k));
            sum = y ∙ ap sum_of (sym (with Amount k));
            number = a ∙ ap (λ (l : List (List ℕ)). decimal (last_of [] l)) (sym (with Count k));
            numberat = i ∙ sym (place_more es (entry k) Count);
            total = t ∙ ap (λ (l : List (List ℕ)). worth_of (last_of [] l)) (sym (with Total k));
            totalat = j ∙ sym (place_more es (entry k) Total);
            typed = d ∙ (r.typed ∙ ap typed_by (sym (types_same es (entry k) refl)));
            service = rw (with lcl_instrm k) w;
            long = rw s (length-set n.starts (field_number f) p ∙ r.long);
            starts = λ g. rw s (starts_more k g);
          }

    none : (l : List (List ℕ)) → l ++ [] ≡ l
    none l = append-nil l

    -- a value that adds nothing but its start
    plain-summed : (k : Kind) → same_kind k Amount ≡ false → same_kind k Count ≡ false → same_kind k Total ≡ false → same_kind k lcl_instrm ≡ false → Summed (es ++ (entry k ∷ [])) (with_start f p n)
    plain-summed k a c t s =
        kept-summed k n refl refl refl refl
        (rw (a, none (values_of Amount (whats es))) r.cents) (rw (a, none (values_of Amount (whats es))) r.sum)
        (rw (c, none (values_of Count (whats es))) r.number) (rw c r.numberat)
        (rw (t, none (values_of Total (whats es))) r.total) (rw t r.totalat)
        (rw (s, none (values_of lcl_instrm (whats es))) r.service)

    plain-keeps : (k : Kind) (g : Given) → Summed (es ++ (entry k ∷ [])) (with_start f p n)
        → Alike Summed (or_refused (fitting g yes) p (es ++ (entry k ∷ []))) (onward (on_given g p (λ c. on (with_start f p n))) on)
    plain-keeps k yes h = going h
    plain-keeps k (worth c) h = going h
    plain-keeps k (no i) h = stopped

    count-keeps : Keeping Count
    unfolding value_noted count_given
    count-keeps = go (count_form v)
      where
        go : (b : Bool) → Alike Summed (or_refused (fitting (in_order (b else 7 ∷ []) (worth (decimal v))) yes) p (es ++ (entry Count ∷ [])))
            (onward (on_given (in_order (b else 7 ∷ []) (worth (decimal v))) p (λ c. on (with_start f p (with_number c p n)))) on)
        go true =
            going (kept-summed Count (with_number (decimal v) p n) refl refl refl refl
            (rw (none (values_of Amount (whats es))) r.cents) (rw (none (values_of Amount (whats es))) r.sum)
            (rw (last_more [] (values_of Count (whats es)) v)) refl
            (rw (none (values_of Total (whats es))) r.total) r.totalat
            (rw (none (values_of lcl_instrm (whats es))) r.service))
        go false = stopped

    total-keeps : Keeping Total
    unfolding value_noted amount_given
    total-keeps = go (amount_form v) (between 1 (most the_total) (worth_of v))
      where
        go : (a b : Bool) → Alike Summed (or_refused (fitting (in_order (a else 7 ∷ b else 9 ∷ []) (worth (worth_of v))) yes) p (es ++ (entry Total ∷ [])))
            (onward (on_given (in_order (a else 7 ∷ b else 9 ∷ []) (worth (worth_of v))) p (λ c. on (with_start f p (with_total c p n)))) on)
        go true true =
            going (kept-summed Total (with_total (worth_of v) p n) refl refl refl refl
            (rw (none (values_of Amount (whats es))) r.cents) (rw (none (values_of Amount (whats es))) r.sum)
            (rw (none (values_of Count (whats es))) r.number) r.numberat
            (rw (last_more [] (values_of Total (whats es)) v)) refl
            (rw (none (values_of lcl_instrm (whats es))) r.service))
        go true false = stopped
        go false b = stopped

    amount-keeps : Keeping Amount
    unfolding value_noted amount_given
    amount-keeps = go (amount_form v) (between 1 (most an_item) (worth_of v))
      where
        told : Summed (es ++ (entry Amount ∷ [])) (added_up Amount (with_start f p (with_cents (worth_of v) n)))
        told =
            kept-summed Amount (added_up Amount (with_cents (worth_of v) n)) refl refl refl refl
            (rw (last_more [] (values_of Amount (whats es)) v)) (omega (arith, r.sum, sum_append (values_of Amount (whats es)) (v ∷ [])))
            (rw (none (values_of Count (whats es))) r.number) r.numberat
            (rw (none (values_of Total (whats es))) r.total) r.totalat
            (rw (none (values_of lcl_instrm (whats es))) r.service)

        go : (a b : Bool) → Alike Summed (or_refused (fitting (in_order (a else 7 ∷ b else 9 ∷ []) (worth (worth_of v))) yes) p (es ++ (entry Amount ∷ [])))
            (onward (on_given (in_order (a else 7 ∷ b else 9 ∷ []) (worth (worth_of v))) p (λ c. on (with_start f p (with_cents c n)))) (λ u. on (added_up Amount u)))
        go true true = going told
        go true false = stopped
        go false b = stopped

    service-keeps : Keeping lcl_instrm
    unfolding value_noted service_kept
    service-keeps = go (code_given LclInstrm v) refl
      where
        ss : List (List ℕ)
        ss = values_of lcl_instrm (whats es)

        asked : (ss : List (List ℕ)) (c : Option ℕ) (i : ℕ) → Served ss c → code_given LclInstrm v ≡ worth i → may_follow c i ≡ alike (first_of v ss) v
        asked [] c i h e = rw h (sym (alike_itself v))
        asked (w ∷ l) c i h e = rw h.2 (sym (code_same w v h.0 i h.1 e))

        still : (ss : List (List ℕ)) (c : Option ℕ) (i : ℕ) → Served ss c → code_given LclInstrm v ≡ worth i → may_follow c i ≡ true → Served (ss ++ (v ∷ [])) (Some i)
        still [] c i h e z = (i, e, refl)
        still (w ∷ l) c i h e z = (h.0, h.1, ap Some (sym (eqb-true h.0 i (rw h.2 at z))))

        serving : (i : ℕ) → code_given LclInstrm v ≡ worth i → (b : Bool) → may_follow n.service i ≡ b
            → Alike Summed (or_refused (in_order (b else 11 ∷ []) yes) p (es ++ (entry lcl_instrm ∷ [])))
            (onward (onward (pick b (on (with_service i n)) (stop 11 p)) (λ u. on (with_start f p u))) on)
        serving i e true z =
            going (kept-summed lcl_instrm (with_service i n) refl refl refl refl
            (rw (none (values_of Amount (whats es))) r.cents) (rw (none (values_of Amount (whats es))) r.sum)
            (rw (none (values_of Count (whats es))) r.number) r.numberat
            (rw (none (values_of Total (whats es))) r.total) r.totalat
            (still ss n.service i r.service e z))
        serving i e false z = stopped

        go : (g : Given) → code_given LclInstrm v ≡ g
            → Alike Summed (or_refused (fitting g (in_order (alike (first_of v ss) v else 11 ∷ []) yes)) p (es ++ (entry lcl_instrm ∷ [])))
            (onward (on_given g p (λ i. onward (pick (may_follow n.service i) (on (with_service i n)) (stop 11 p)) (λ u. on (with_start f p u)))) on)
        go yes e = never (code_no v e)
        go (worth i) e = rw (← asked ss n.service i r.service e) (serving i e (may_follow n.service i) refl)
        go (no i) e = stopped

    value_keeps : (k : Kind) → Keeping k
    unfolding value_noted
    value_keeps (Plain s) = plain-keeps (Plain s) (simple_given s v) (plain-summed (Plain s) refl refl refl refl)
    value_keeps Count = count-keeps
    value_keeps Total = total-keeps
    value_keeps Amount = amount-keeps
    value_keeps (Code LclInstrm) = service-keeps
    value_keeps (Code SttlmMtd) = plain-keeps (Code SttlmMtd) (code_given SttlmMtd v) (plain-summed (Code SttlmMtd) refl refl refl refl)
    value_keeps (Code SvcLvl) = plain-keeps (Code SvcLvl) (code_given SvcLvl v) (plain-summed (Code SvcLvl) refl refl refl refl)
    value_keeps (Code SeqTp) = plain-keeps (Code SeqTp) (code_given SeqTp v) (plain-summed (Code SeqTp) refl refl refl refl)
    value_keeps (Code ChrgBr) = plain-keeps (Code ChrgBr) (code_given ChrgBr v) (plain-summed (Code ChrgBr) refl refl refl refl)
    value_keeps (Code Prtry) = plain-keeps (Code Prtry) (code_given Prtry v) (plain-summed (Code Prtry) refl refl refl refl)

pub sums : Keeps Summed lenient in_notes
unfolding type_noted
sums e es n r = go e.what
  where
    go : (w : What) → Alike Summed (lenient (w at e.place) es) (in_notes (w at e.place) n)
    go item_begins = item-keeps es n r e.place
    go item_ends = going (ended-keeps es n r e.place)
    go (there s) = type_keeps es n r s e.place true
    go (absent s) = type_keeps es n r s e.place false
    go (value k f v) = value_keeps es n r f e.place v k
