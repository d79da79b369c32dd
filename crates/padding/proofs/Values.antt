-- An accepted item's values: of each recorded field one stands in its header or in it, and is told by the field; of InstrId one at most.
use mathlib.Core.Path.{◌≡◌, refl, sym, ap, ◌∙◌}
use mathlib.Core.Bool.{Bool, true}
use mathlib.Core.List.{List, [], ◌∷◌, ◌++◌}
use Prim.Native.Nat.{ℕ, ◌+◌, ◌≤◌}
use native.Mathlib.Omega.{arith}
use lib.ListN.{length}
use Rattle.text.specs.Truth.{pick}
use Rattle.text.specs.Quoted.{bytes, alike}
use Rattle.text.proofs.Truths.{never}
use Rattle.money.specs.declared.Range.TheVariants.{Item as item_range}
use Rattle.money.specs.Amount.{cents, most}
use Rattle.profile.specs.declared.Kind.{Kind}
use Rattle.profile.specs.declared.Kind.TheVariants.{Amount}
use Rattle.profile.specs.declared.Field.{Field}
use Rattle.profile.specs.declared.Field.TheVariants.{InstrId}
use Rattle.profile.specs.declared.Version.{Version}
use Rattle.profile.specs.declared.Version.TheVariants.{V02, V08}
use Rattle.profile.specs.Tree.{Shape}
use Rattle.profile.specs.Profile.{in_header, in_item}
use Rattle.kinds.specs.Given.{kind_given}
use Rattle.reading.specs.Trace.{What, item_begins, item_ends, there, absent, value}
use Rattle.reading.specs.Rules.{values_of, values_at, own_kind}
use Rattle.reading.specs.Items.{Item, the_header}
use Rattle.reading.proofs.Lists.{at_append, values_append}
use Rattle.documents.specs.Document.{Doc, Each, LedBy, Proper}
use Rattle.documents.specs.Said.{said}
use Rattle.documents.specs.Holds.{Passes}
use Rattle.documents.proofs.Often.{Weighing, weight, heavy, weight_append, weight_field, a_kind, a_field, a_stranger, times, fixed, as_often}
use Rattle.documents.proofs.Each.{each_both, each_first, each_rest}
use Rattle.documents.proofs.Standing.{OnceAt, one_at, one_of, item_amounts}
use Rattle.bulks.specs.Bulk.{DocItem, item_text, front, items_from}
use Rattle.bulks.specs.Accepted.{Bulked}
use Rattle.bulks.proofs.Trees.{accepted_bulk}
use Rattle.bulks.proofs.Parts.{items_said, said_parts}
use Rattle.bulks.proofs.Items.{bulk_holds, items_proper, header_proper, its_judgement, accepted_items, accepted_header}
use Rattle.bulks.proofs.Typed.{InEach, one_wherever, none_above, no_kind_above}
use Rattle.padding.specs.Agree.{AcceptedItem, says}
use Rattle.padding.proofs.Legal.{each_legal, each_of, amount_fits}

-- what the tree shows: none of these in a header or an item
abbrev None : Weighing → Shape → Type 0
None w sh = (fixed w sh ≡ true) × (times w sh ≡ 0)

-- a field whose values are of kinds that t allows
pub record Sorted (t : Kind → Bool) (f : Field) (v : Version) : Type 0 where
  pub header : None (a_stranger f t) (in_header v)
  pub item : None (a_stranger f t) (in_item v)

-- one that stands once in every item and in no header
pub record Own (f : Field) (v : Version) : Type 0 where
  pub above : None (a_field f) (in_header v)
  pub once : OnceAt f (in_item v)

amount_below : (v : Version) → None (a_kind Amount) (in_header v)
unfolding in_header
amount_below V02 = (refl, refl)
amount_below V08 = (refl, refl)

-- ---- InstrId: it stands, or is said to be absent, once
abbrev or_left_out : Weighing
or_left_out = record { by_field = λ k f. (a_field InstrId).by_field k f; an_item = 0; mark = λ b n. pick b 0 (pick (alike (bytes "InstrId") (bytes n)) 1 0) }

instruction_once : (v : Version) → (fixed or_left_out (in_item v) ≡ true) × (times or_left_out (in_item v) ≡ 1)
unfolding in_item
instruction_once V02 = (refl, refl)
instruction_once V08 = (refl, refl)

instruction_above : (v : Version) → None (a_field InstrId) (in_header v)
unfolding in_header
instruction_above V02 = (refl, refl)
instruction_above V08 = (refl, refl)

weighs_more : (ws : List What) → weight (a_field InstrId) ws ≤ weight or_left_out ws
weighs_more [] = omega arith
weighs_more (w ∷ l) = omega (arith, weighs_more l, one w)
  where
    one : (w : What) → heavy (a_field InstrId) w ≤ heavy or_left_out w
    one item_begins = omega arith
    one item_ends = omega arith
    one (there n) = omega arith
    one (absent n) = omega arith
    one (value k f v) = omega arith

-- ---- what is so of each item of a document is so of each item of its message
module _ (v : Version) where
  each_item : (Q : List What → Type 0) → ((d : Doc (in_item v)) → Proper (in_item v) d → Q (said (in_item v) d))
      → (p : ℕ) (l : List (DocItem v)) → Each (LedBy (Proper (in_item v))) l → Each (λ x. Q x.holds) (items_from v p l)
  each_item Q h p [] pr = tt
  each_item Q h p (x ∷ l) pr = (h x.held pr.0.1, each_item Q h (p + length (item_text v x)) l pr.1)

  each-kind : (R : What → Type 0) (p : ℕ) (l : List (DocItem v)) → Each R (items_said v l) → Each (λ x. Each R x.holds) (items_from v p l)
  each-kind R p [] h = tt
  each-kind R p (x ∷ l) h =
      let s = said (in_item v) x.held in
      let t = s ++ (item_ends ∷ []) in
      (each_first R s (item_ends ∷ []) (each_first R t (items_said v l) h.1), each-kind R (p + length (item_text v x)) l (each_rest R t (items_said v l) h.1))

-- ---- one value, of which something is known; and one at most
pub record One (P : List ℕ → Type 0) (l : List (List ℕ)) : Type 0 where
  pub it : List ℕ
  pub is : l ≡ it ∷ []
  pub known : P it

pub data OneOrNone (P : List ℕ → Type 0) (l : List (List ℕ)) : Type 0 where
  none : l ≡ [] → OneOrNone P l
  some : One P l → OneOrNone P l

one_in : (P : List ℕ → Type 0) (l : List (List ℕ)) → length l ≡ 1 → Each P l → One P l
one_in P [] n h = never (omega arith)
one_in P (v ∷ []) n h = record { it = v; is = refl; known = h.0 }
one_in P (v ∷ w ∷ l) n h = never (omega arith)

one_or_none : (P : List ℕ → Type 0) (l : List (List ℕ)) → length l ≤ 1 → Each P l → OneOrNone P l
one_or_none P [] n h = none refl
one_or_none P (v ∷ []) n h = some (record { it = v; is = refl; known = h.0 })
one_or_none P (v ∷ w ∷ l) n h = never (omega arith)

-- ---- an accepted item
module _ {m : List ℕ} (x : AcceptedItem m) where
  abbrev k : Bulked m
  k = accepted_bulk m x.count x.cents x.accepted

  abbrev pub version : Version
  version = k.version

  abbrev its : List What
  its = x.item.holds

  abbrev head : Doc (in_header version)
  head = k.bulk.header.held

  abbrev head_proper : Proper (in_header version) head
  head_proper = (header_proper k.bulk k.lawful).1

  header_is : the_header m ≡ said (in_header version) head
  header_is = accepted_header m x.count x.cents x.accepted k

  items-are : items_from version (length (front k.bulk)) k.bulk.items ≡ x.before ++ (x.item ∷ x.after)
  items-are = sym (accepted_items m x.count x.cents x.accepted k) ∙ x.is

  -- what is so of each item is so of this one
  of-item : (Q : Item → Type 0) → Each Q (items_from version (length (front k.bulk)) k.bulk.items) → Q x.item
  of-item Q h = (each_rest Q x.before (x.item ∷ x.after) (rw items-are at h)).0

  of_each : (Q : List What → Type 0) → ((d : Doc (in_item version)) → Proper (in_item version) d → Q (said (in_item version) d)) → Q its
  of_each Q h = of-item (λ y. Q y.holds) (each_item version Q h (length (front k.bulk)) k.bulk.items (items_proper k.bulk k.lawful))

  -- its values and its header's are of their kinds
  kinds : Each (λ w. Passes (own_kind w)) (says x)
  kinds =
      let H = said (in_header version) head in
      let I = items_said version k.bulk.items in
      let all : Each (λ w. Passes (own_kind w)) (H ++ I) =
      rw (said_parts k.bulk) at (bulk_holds k.bulk k.lawful x.count x.cents (its_judgement m x.count x.cents x.accepted k)).kinds in
      each_both (λ w. Passes (own_kind w)) (the_header m) its (rw header_is (each_first (λ w. Passes (own_kind w)) H I all))
      (of-item (λ y. Each (λ w. Passes (own_kind w)) y.holds) (each-kind version (λ w. Passes (own_kind w)) (length (front k.bulk)) k.bulk.items (each_rest (λ w. Passes (own_kind w)) H I all)))

  legal : (t : Kind → Bool) (P : List ℕ → Type 0) → ((k : Kind) (v : List ℕ) → t k ≡ true → Passes (kind_given k v) → P v) → (f : Field) → Sorted t f version → Each P (values_at f (says x))
  legal t P g f s =
      let w = a_stranger f t in
      let h : weight w (the_header m) ≡ 0 = ap (weight w) header_is ∙ (as_often w (in_header version) s.header.0 head head_proper ∙ s.header.1) in
      let i : weight w its ≡ 0 = of_each (λ l. weight w l ≡ 0) (λ d pr. as_often w (in_item version) s.item.0 d pr ∙ s.item.1) in
      each_legal f t P g (says x) (weight_append w (the_header m) its ∙ omega (arith, h, i)) kinds

  -- a field that stands in no header: the item's own
  its_own : (f : Field) → None (a_field f) (in_header version) → values_at f (says x) ≡ values_at f its
  its_own f n = at_append f (the_header m) its ∙ ap (λ (l : List (List ℕ)). l ++ values_at f its) (none_above m x.count x.cents x.accepted k f n.0 n.1)

  module _ (t : Kind → Bool) (P : List ℕ → Type 0) (g : (k : Kind) (v : List ℕ) → t k ≡ true → Passes (kind_given k v) → P v) where
    pub own_one : (f : Field) → Own f version → Sorted t f version → One P (values_at f (says x))
    own_one f o s = one_in P (values_at f (says x)) (ap length (its_own f o.above) ∙ of_each (λ l. length (values_at f l) ≡ 1) (λ d pr. one_at d pr f o.once)) (legal t P g f s)

    pub wherever_one : (f : Field) → InEach f → Sorted t f version → One P (values_at f (says x))
    wherever_one f i s = one_in P (values_at f (says x)) (one_wherever m x.count x.cents x.accepted k f i x.before x.after x.item x.is) (legal t P g f s)

    pub instruction_or_none : Sorted t InstrId version → OneOrNone P (values_at InstrId (says x))
    instruction_or_none s =
        let o = instruction_once version in
        one_or_none P (values_at InstrId (says x))
        (omega (
          arith,
          ap length (its_own InstrId (instruction_above version)),
          weight_field InstrId its,
          weighs_more its,
          of_each (λ l. weight or_left_out l ≡ 1) (λ d pr. as_often or_left_out (in_item version) o.0 d pr ∙ o.1),
        ))
        (legal t P g InstrId s)

  pub amount_one : One (λ v. cents v ≤ most item_range) (values_of Amount (says x))
  amount_one =
      let b = amount_below version in
      let e : values_of Amount (says x) ≡ values_of Amount its =
      values_append Amount (the_header m) its ∙ ap (λ (l : List (List ℕ)). l ++ values_of Amount its) (no_kind_above m x.count x.cents x.accepted k Amount b.0 b.1) in
      one_in (λ v. cents v ≤ most item_range) (values_of Amount (says x))
      (ap length e ∙ of_each (λ l. length (values_of Amount l) ≡ 1) (λ d pr. one_of d pr Amount (item_amounts version)))
      (each_of Amount (λ v. cents v ≤ most item_range) amount_fits (says x) kinds)
