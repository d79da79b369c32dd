-- Where an item has none of what each payment type has once, the header's is the only one in the message. And what the header never has.
use mathlib.Core.Path.{◌≡◌, refl, sym, ap, ◌∙◌}
use mathlib.Core.Bool.{Bool, true, false}
use mathlib.Core.List.{List, [], ◌∷◌, ◌++◌, append-nil}
use Prim.Native.Nat.{ℕ, suc, ◌+◌, ◌≤◌}
use native.Mathlib.Omega.{arith}
use lib.ListN.{length, replicate, length-append}
use Rattle.text.proofs.Truths.{never}
use Rattle.profile.specs.declared.Kind.{Kind}
use Rattle.profile.specs.declared.Field.{Field}
use Rattle.profile.specs.declared.Field.TheVariants.{LclInstrm, SeqTp}
use Rattle.profile.specs.declared.Version.{Version}
use Rattle.profile.specs.declared.Version.TheVariants.{V02, V08}
use Rattle.profile.specs.Tree.{Shape}
use Rattle.profile.specs.Profile.{is_type, in_header, in_item}
use Rattle.reading.specs.Trace.{What, item_ends, message as the_trace}
use Rattle.reading.specs.Noted.{noted}
use Rattle.reading.specs.Rules.{items_in, values_of, values_at, types_in}
use Rattle.reading.specs.Verdict.{accepted}
use Rattle.reading.specs.Judged.{whats, listed, judged}
use Rattle.reading.specs.Items.{Item, notes_of, the_items, the_header}
use Rattle.reading.proofs.Lists.{at_append, types_append}
use Rattle.reading.proofs.Each.{AllIn}
use Rattle.documents.specs.Document.{Doc, Each, LedBy, Proper}
use Rattle.documents.specs.Said.{said}
use Rattle.documents.specs.Holds.{TypeStands, in_header as above, in_items}
use Rattle.documents.proofs.Often.{a_kind, a_field, a_type, times, fixed, as_often, weight_field, weight_types, of_kind_lem, at_field}
use Rattle.documents.proofs.Each.{each_first, each_rest}
use Rattle.documents.proofs.Typed.{lacking, lacking_append, lacking_all, lacking_none, or_absent, once_or_lacking}
use Rattle.items.proofs.Accepted.{accepted_chained}
use Rattle.bulks.specs.Bulk.{DocItem, item_text, front, items_from}
use Rattle.bulks.specs.Accepted.{Bulked}
use Rattle.bulks.proofs.Parts.{items_said, said_parts, items_said_lem}
use Rattle.bulks.proofs.Items.{bulk_read, bulk_holds, items_proper, header_proper, its_judgement, accepted_many, accepted_items, accepted_header}

-- a tree in which the payment type may stand once, and holds then one of a field that stands nowhere else
pub record OneIn (f : Field) (sh : Shape) : Type 0 where
  pub level : fixed (or_absent (a_field f).by_field) sh ≡ true
  pub once : times (or_absent (a_field f).by_field) sh ≡ 1
  pub placed : fixed a_type sh ≡ true
  pub place : times a_type sh ≡ 1

-- a field that does so in the header and in an item
pub record InEach (f : Field) : Type 0 where
  pub header : (v : Version) → OneIn f (in_header v)
  pub item : (v : Version) → OneIn f (in_item v)

in_headers : (v : Version) → AllIn (λ f. OneIn f (in_header v)) (LclInstrm ∷ SeqTp ∷ [])
unfolding in_header is_type
in_headers V02 = (record { level = refl; once = refl; placed = refl; place = refl }, (record { level = refl; once = refl; placed = refl; place = refl }, tt))
in_headers V08 = (record { level = refl; once = refl; placed = refl; place = refl }, (record { level = refl; once = refl; placed = refl; place = refl }, tt))

in_items_lem : (v : Version) → AllIn (λ f. OneIn f (in_item v)) (LclInstrm ∷ SeqTp ∷ [])
unfolding in_item is_type
in_items_lem V02 = (record { level = refl; once = refl; placed = refl; place = refl }, (record { level = refl; once = refl; placed = refl; place = refl }, tt))
in_items_lem V08 = (record { level = refl; once = refl; placed = refl; place = refl }, (record { level = refl; once = refl; placed = refl; place = refl }, tt))

pub instrument : InEach LclInstrm
instrument = record { header = λ v. (in_headers v).0; item = λ v. (in_items_lem v).0 }

pub sequence : InEach SeqTp
sequence = record { header = λ v. (in_headers v).1.0; item = λ v. (in_items_lem v).1.0 }

-- one of the field where the payment type stands, and none where it does not
module _ (f : Field) {sh : Shape} (i : OneIn f sh) (d : Doc sh) (pr : Proper sh d) where
  one-or-lacking : length (values_at f (said sh d)) + lacking (types_in (said sh d)) ≡ 1
  one-or-lacking = omega (arith, once_or_lacking (a_field f).by_field sh i.level i.once d pr, weight_field f (said sh d))

  pub one_place : length (types_in (said sh d)) ≡ 1
  one_place = weight_types (said sh d) ∙ (as_often a_type sh i.placed d pr ∙ i.place)

-- ---- the items of a bulk: what they say of the payment type, and how many of the field they have
module _ (v : Version) (f : Field) (i : InEach f) where
  abbrev lacks : Item → ℕ
  lacks x = lacking (types_in x.holds)

  abbrev all_lack : List Item → ℕ
  all_lack [] = 0
  all_lack (x ∷ l) = lacks x + all_lack l

  lack-append : (a b : List Item) → all_lack (a ++ b) ≡ all_lack a + all_lack b
  lack-append [] b = omega arith
  lack-append (x ∷ a) b = omega (arith, lack-append a b)

  items-lack : (p : ℕ) (l : List (DocItem v)) → lacking (types_in (items_said v l)) ≡ all_lack (items_from v p l)
  items-lack p [] = refl
  items-lack p (x ∷ l) =
      let s = said (in_item v) x.held in
      let z : types_in (items_said v (x ∷ l)) ≡ types_in s ++ types_in (items_said v l) =
      types_append (s ++ (item_ends ∷ [])) (items_said v l) ∙ rw (types_append s (item_ends ∷ []), append-nil (types_in s)) in
      omega (arith, ap lacking z, lacking_append (types_in s) (types_in (items_said v l)), items-lack (p + length (item_text v x)) l)

  items-have : (l : List (DocItem v)) → Each (LedBy (Proper (in_item v))) l → length (values_at f (items_said v l)) + lacking (types_in (items_said v l)) ≡ length l
  items-have [] pr = refl
  items-have (x ∷ l) pr =
      let s = said (in_item v) x.held in
      let z : types_in (items_said v (x ∷ l)) ≡ types_in s ++ types_in (items_said v l) =
      types_append (s ++ (item_ends ∷ [])) (items_said v l) ∙ rw (types_append s (item_ends ∷ []), append-nil (types_in s)) in
      let y : values_at f (items_said v (x ∷ l)) ≡ values_at f s ++ values_at f (items_said v l) =
      at_append f (s ++ (item_ends ∷ [])) (items_said v l) ∙ rw (at_append f s (item_ends ∷ []), append-nil (values_at f s)) in
      omega (
        arith,
        ap lacking z,
        ap length y,
        lacking_append (types_in s) (types_in (items_said v l)),
        length-append (values_at f s) (values_at f (items_said v l)),
        one-or-lacking f (i.item v) x.held pr.0.1,
        items-have l pr.1,
      )

  -- each of them has one or lacks the payment type
  abbrev HasOne : Item → Type 0
  HasOne x = length (values_at f x.holds) + lacks x ≡ 1

  each-has : (p : ℕ) (l : List (DocItem v)) → Each (LedBy (Proper (in_item v))) l → Each HasOne (items_from v p l)
  each-has p [] pr = tt
  each-has p (x ∷ l) pr = (one-or-lacking f (i.item v) x.held pr.0.1, each-has (p + length (item_text v x)) l pr.1)

  at_most : (l : List Item) → Each HasOne l → all_lack l ≤ length l
  at_most [] h = omega arith
  at_most (y ∷ l) h = omega (arith, h.0, at_most l h.1)

-- ---- where the header's payment type stands: with one place in the header
at_first : (h r : List Bool) (b c : Bool) (n : ℕ) → length h ≡ 1 → h ++ r ≡ b ∷ replicate n c → (h ≡ b ∷ []) × (r ≡ replicate n c)
at_first [] r b c n e z = never (omega arith)
at_first (x ∷ []) r b c n e z = let y : x ≡ b = cc in let w : r ≡ replicate n c = cc in (rw y, w)
at_first (x ∷ y ∷ h) r b c n e z = never (omega arith)

none_left : {A : Type 0} (l : List A) → length l ≡ 0 → l ≡ []
none_left [] e = refl
none_left (x ∷ l) e = never (omega arith)

module _ (m : List ℕ) (n c : ℕ) (e : judged m ≡ accepted n c) (k : Bulked m) (f : Field) (i : InEach f) where
  abbrev v : Version
  v = k.version

  abbrev H : List What
  H = said (in_header v) k.bulk.header.held

  abbrev I : List What
  I = items_said v k.bulk.items

  abbrev proper : Each (LedBy (Proper (in_item v))) k.bulk.items
  proper = items_proper k.bulk k.lawful

  abbrev headed : Proper (in_header v) k.bulk.header.held
  headed = (header_proper k.bulk k.lawful).1

  read : whats (notes_of (noted listed (the_trace m) [])) ≡ H ++ I
  read = ap (λ (x : List ℕ). whats (notes_of (noted listed (the_trace x) []))) k.is ∙ bulk_read k.bulk k.lawful n c (its_judgement m n c e k)

  stands : TypeStands (H ++ I)
  stands = rw (said_parts k.bulk) at (bulk_holds k.bulk k.lawful n c (its_judgement m n c e k)).type

  as_many : items_in (H ++ I) ≡ length k.bulk.items
  as_many = ap items_in (sym (said_parts k.bulk)) ∙ items_said_lem k.bulk proper headed

  module _ (a b : List Item) (x : Item) (is : the_items m ≡ a ++ (x ∷ b)) where
    its : items_from v (length (front k.bulk)) k.bulk.items ≡ a ++ (x ∷ b)
    its = sym (accepted_items m n c e k) ∙ is

    -- it has one or lacks the payment type; and so has each of the others
    each_one : Each (HasOne v f i) (a ++ (x ∷ b))
    each_one = rw its at (each-has v f i (length (front k.bulk)) k.bulk.items proper)

    its-one : HasOne v f i x
    its-one = (each_rest (HasOne v f i) a (x ∷ b) each_one).0

    all-lack : lacking (types_in I) ≡ all_lack v f i a + (lacks v f i x + all_lack v f i b)
    all-lack = items-lack v f i (length (front k.bulk)) k.bulk.items ∙ (ap (all_lack v f i) its ∙ lack-append v f i a (x ∷ b))

    place : length (types_in H) ≡ 1
    place = one_place f (i.header v) k.bulk.header.held headed

    head-one : length (values_at f H) + lacking (types_in H) ≡ 1
    head-one = one-or-lacking f (i.header v) k.bulk.header.held headed

    -- an item that has none lacks the payment type, so that the header has it; and then no item has one
    pub only_above : values_at f x.holds ≡ [] → values_at f (whats (notes_of (noted listed (the_trace m) []))) ≡ values_at f (the_header m)
    only_above none =
        ap (values_at f) read
        ∙ (at_append f H I ∙ (ap (λ (l : List (List ℕ)). values_at f H ++ l) (go stands) ∙ (append-nil (values_at f H) ∙ ap (values_at f) (sym (accepted_header m n c e k)))))
      where
        go : TypeStands (H ++ I) → values_at f I ≡ []
        go (in_items t) =
            let s = at_first (types_in H) (types_in I) false true (items_in (H ++ I)) place (sym (types_append H I) ∙ t) in
            never (omega (arith, its-one, ap length none, all-lack, ap lacking s.1, lacking_none (items_in (H ++ I))))
        go (above t) =
            let s = at_first (types_in H) (types_in I) true false (items_in (H ++ I)) place (sym (types_append H I) ∙ t) in
            none_left (values_at f I) (omega (arith, ap lacking s.1, lacking_all (items_in (H ++ I)), items-have v f i k.bulk.items proper, as_many))

    -- the header and the item together have one
    pub one_wherever : length (values_at f (the_header m ++ x.holds)) ≡ 1
    one_wherever =
        let z : values_at f (the_header m ++ x.holds) ≡ values_at f H ++ values_at f x.holds =
        ap (λ (l : List What). values_at f (l ++ x.holds)) (accepted_header m n c e k) ∙ at_append f H x.holds in
        omega (arith, ap length z, length-append (values_at f H) (values_at f x.holds), go stands)
      where
        go : TypeStands (H ++ I) → length (values_at f H) + length (values_at f x.holds) ≡ 1
        go (in_items t) =
            let s = at_first (types_in H) (types_in I) false true (items_in (H ++ I)) place (sym (types_append H I) ∙ t) in
            omega (arith, head-one, its-one, ap lacking s.0, all-lack, ap lacking s.1, lacking_none (items_in (H ++ I)))
        go (above t) =
            let s = at_first (types_in H) (types_in I) true false (items_in (H ++ I)) place (sym (types_append H I) ∙ t) in
            omega (
              arith,
              head-one,
              its-one,
              ap lacking s.0,
              all-lack,
              ap lacking s.1,
              lacking_all (items_in (H ++ I)),
              as_many,
              accepted_many m n c e k,
              ap length is,
              length-append a (x ∷ b),
              (accepted_chained m n c e).many,
              at_most v f i a (each_first (HasOne v f i) a (x ∷ b) each_one),
              at_most v f i b (each_rest (HasOne v f i) a (x ∷ b) each_one).1,
            )

-- ---- what stands in no header
module _ (m : List ℕ) (n c : ℕ) (e : judged m ≡ accepted n c) (k : Bulked m) where
  abbrev sh : Shape
  sh = in_header k.version

  abbrev doc : Doc sh
  doc = k.bulk.header.held

  abbrev doc_proper : Proper sh doc
  doc_proper = (header_proper k.bulk k.lawful).1

  pub none_above : (f : Field) → fixed (a_field f) sh ≡ true → times (a_field f) sh ≡ 0 → values_at f (the_header m) ≡ []
  none_above f h z = ap (values_at f) (accepted_header m n c e k) ∙ none_left (values_at f (said sh doc)) (at_field f sh h doc doc_proper ∙ z)

  pub no_kind_above : (j : Kind) → fixed (a_kind j) sh ≡ true → times (a_kind j) sh ≡ 0 → values_of j (the_header m) ≡ []
  no_kind_above j h z = ap (values_of j) (accepted_header m n c e k) ∙ none_left (values_of j (said sh doc)) (of_kind_lem j sh h doc doc_proper ∙ z)
