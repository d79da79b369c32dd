-- What two weighings make of a document differs by what they make of its tree: so what stands a fixed number of times in a tree stands as often in each document of it.
use mathlib.Core.Path.{◌≡◌, refl, ap, ◌∙◌}
use mathlib.Core.Bool.{Bool, true, false}
use mathlib.Core.List.{List, [], ◌∷◌, ◌++◌}
use Prim.Native.Nat.{ℕ, suc, ◌+◌, ◌*◌}
use Prim.Native.String.{String}
use native.Mathlib.Omega.{arith}
use borrow.Author.Tests.{eqb-true}
use lib.Dec.{eqb}
use lib.ListN.{length, length-append}
use Rattle.text.specs.Truth.{both, pick}
use Rattle.text.proofs.Truths.{both_true, never}
use Rattle.profile.specs.declared.Kind.{Kind}
use Rattle.profile.specs.declared.Field.{Field}
use Rattle.profile.specs.Kinds.{same_kind}
use Rattle.profile.specs.Fields.{same_field}
use Rattle.profile.specs.Profile.{is_type}
use Rattle.profile.specs.Tree.{Occ, once, optional, many, more, Shape, end, leaf, group}
use Rattle.reading.specs.Trace.{What, item_begins, item_ends, there, absent, value}
use Rattle.reading.specs.Rules.{begun, items_in, gathered, of_kind, values_of, of_field, values_at, of_type, types_in}
use Rattle.documents.specs.Document.{Led, Doc, Often, Each, Tagless, LedBy, Proper}
use Rattle.documents.specs.Said.{one, each, none, said}

-- ---- what is said, weighed: a value by its kind and its field, an item's beginning, an element that is 0 or 1 by its name and whether it is there
pub record Weighing : Type 0 where
  pub by_field : Kind → Field → ℕ
  pub an_item : ℕ
  pub mark : Bool → String → ℕ

module _ (a : Weighing) where
  abbrev pub heavy : What → ℕ
  heavy item_begins = a.an_item
  heavy item_ends = 0
  heavy (there n) = a.mark true n
  heavy (absent n) = a.mark false n
  heavy (value k f v) = a.by_field k f

  abbrev pub weight : List What → ℕ
  weight [] = 0
  weight (w ∷ l) = heavy w + weight l

  pub weight_append : (x y : List What) → weight (x ++ y) ≡ weight x + weight y
  weight_append [] y = omega arith
  weight_append (w ∷ x) y = omega (arith, weight_append x y)

  -- what an element adds where it stands, and where it does not
  abbrev begun_by : Occ → String → ℕ
  begun_by once n = 0
  begun_by optional n = a.mark true n
  begun_by many n = a.an_item
  begun_by more n = a.an_item

  abbrev left_out_lem : {A : Type 0} → Occ → String → List A → ℕ
  left_out_lem once n l = 0
  left_out_lem optional n [] = a.mark false n
  left_out_lem optional n (e ∷ l) = 0
  left_out_lem many n l = 0
  left_out_lem more n l = 0

  -- a tree's weight, with every element once
  abbrev pub times : Shape → ℕ
  times (end n) = 0
  times (leaf o n k f rest) = begun_by o n + a.by_field k f + times rest
  times (group o n inner rest) = begun_by o n + times inner + times rest

  module _ {A : Type 0} (n : String) (h : A → List What) where
    one-weight : (o : Occ) (e : Led A) → weight (one o n h e) ≡ begun_by o n + weight (h e.held)
    one-weight once e = omega arith
    one-weight optional e = omega arith
    one-weight many e = omega (arith, weight_append (h e.held) (item_ends ∷ []))
    one-weight more e = omega (arith, weight_append (h e.held) (item_ends ∷ []))

    more-weight : (o : Occ) (e : Led A) (l : List (Led A)) → weight (each o n h (e ∷ l)) ≡ begun_by o n + weight (h e.held) + weight (each o n h l)
    more-weight o e l = omega (arith, weight_append (one o n h e) (each o n h l), one-weight o e)

    none-weight : (o : Occ) (l : List (Led A)) → weight (none o n l) ≡ left_out_lem o n l
    none-weight once l = refl
    none-weight optional [] = omega arith
    none-weight optional (e ∷ l) = refl
    none-weight many l = refl
    none-weight more l = refl

    row-weight : (o : Occ) (l : List (Led A)) (r : List What) → weight (none o n l ++ (each o n h l ++ r)) ≡ left_out_lem o n l + weight (each o n h l) + weight r
    row-weight o l r = omega (arith, weight_append (none o n l) (each o n h l ++ r), weight_append (each o n h l) r, none-weight o l)

-- ---- two weighings
module _ (a b : Weighing) where
  -- an element of these two weights tips neither side, left out or as often as it may come
  abbrev level : Occ → String → ℕ → ℕ → Bool
  level once n x y = true
  level optional n x y = eqb (x + b.mark false n) (y + a.mark false n)
  level many n x y = eqb x y
  level more n x y = eqb x y

  abbrev pub even : Shape → Bool
  even (end n) = true
  even (leaf o n k f rest) = both (level o n (begun_by a o n + a.by_field k f) (begun_by b o n + b.by_field k f)) (even rest)
  even (group o n inner rest) = both (level o n (begun_by a o n + times a inner) (begun_by b o n + times b inner)) (both (even inner) (even rest))

  -- a row, each of whose elements differs by what its tree does
  module _ {A : Type 0} (n : String) (h : A → List What) (P : A → Type 0) (x y : ℕ) (k : (e : A) → P e → weight a (h e) + y ≡ weight b (h e) + x) where
    abbrev Level : Occ → List (Led A) → Type 0
    Level o l = left_out_lem a o n l + weight a (each o n h l) + (begun_by b o n + y) ≡ left_out_lem b o n l + weight b (each o n h l) + (begun_by a o n + x)

    one-level : (o : Occ) (d : Led A) → left_out_lem a o n (d ∷ []) ≡ left_out_lem b o n (d ∷ []) → LedBy P d → Level o (d ∷ [])
    one-level o d e pr = omega (arith, e, k d.held pr.1, more-weight a n h o d [], more-weight b n h o d [])

    each_level : (o : Occ) → begun_by a o n + x ≡ begun_by b o n + y → (l : List (Led A)) → Each (LedBy P) l → weight a (each o n h l) ≡ weight b (each o n h l)
    each_level o e [] pr = refl
    each_level o e (d ∷ l) pr = omega (arith, e, k d.held pr.0.1, more-weight a n h o d l, more-weight b n h o d l, each_level o e l pr.1)

    row-level : (o : Occ) (l : List (Led A)) → level o n (begun_by a o n + x) (begun_by b o n + y) ≡ true → Often o (length l) → Each (LedBy P) l → Level o l
    row-level once [] e i pr = never (omega (arith, i))
    row-level once (d ∷ []) e i pr = one-level once d refl pr.0
    row-level once (d ∷ c ∷ l) e i pr = never (omega (arith, i))
    row-level optional [] e i pr = omega (arith, eqb-true (a.mark true n + x + b.mark false n) (b.mark true n + y + a.mark false n) e)
    row-level optional (d ∷ []) e i pr = one-level optional d refl pr.0
    row-level optional (d ∷ c ∷ l) e i pr = never (omega (arith, i))
    row-level many l e i pr = let z = eqb-true (a.an_item + x) (b.an_item + y) e in omega (arith, z, each_level many z l pr)
    row-level more l e i pr = let z = eqb-true (a.an_item + x) (b.an_item + y) e in omega (arith, z, each_level more z l pr)

    row-then : (o : Occ) (l : List (Led A)) (r : List What) (s t : ℕ) → Level o l → weight a r + t ≡ weight b r + s
        → weight a (none o n l ++ (each o n h l ++ r)) + (begun_by b o n + y + t) ≡ weight b (none o n l ++ (each o n h l ++ r)) + (begun_by a o n + x + s)
    row-then o l r s t e f = omega (arith, e, f, row-weight a n h o l r, row-weight b n h o l r)

  -- What they make of a document differs by what they make of its tree, where neither is tipped by what is left out or comes again.
  pub balance : (sh : Shape) → even sh ≡ true → (d : Doc sh) → Proper sh d → weight a (said sh d) + times b sh ≡ weight b (said sh d) + times a sh
  balance (end n) e d pr = refl
  balance (leaf o n k f rest) e d pr =
      let c = both_true (level o n (begun_by a o n + a.by_field k f) (begun_by b o n + b.by_field k f)) (even rest) e in
      let i : (v : List ℕ) → Tagless v → weight a (value k f v ∷ []) + b.by_field k f ≡ weight b (value k f v ∷ []) + a.by_field k f = λ v h. omega arith in
      row-then n (λ v. value k f v ∷ []) Tagless (a.by_field k f) (b.by_field k f) i o d.all (said rest d.others) (times a rest) (times b rest)
      (row-level n (λ v. value k f v ∷ []) Tagless (a.by_field k f) (b.by_field k f) i o d.all c.0 pr.0 pr.1)
      (balance rest c.1 d.others pr.2)
  balance (group o n inner rest) e d pr =
      let c = both_true (level o n (begun_by a o n + times a inner) (begun_by b o n + times b inner)) (both (even inner) (even rest)) e in
      let g = both_true (even inner) (even rest) c.1 in
      row-then n (said inner) (Proper inner) (times a inner) (times b inner) (balance inner g.0) o d.all (said rest d.others) (times a rest) (times b rest)
      (row-level n (said inner) (Proper inner) (times a inner) (times b inner) (balance inner g.0) o d.all c.0 pr.0 pr.1)
      (balance rest g.1 d.others pr.2)

-- ---- one weighing: beside nothing
abbrev pub nothing : Weighing
nothing = record { by_field = λ k f. 0; an_item = 0; mark = λ b n. 0 }

nothing_said : (ws : List What) → weight nothing ws ≡ 0
nothing_said [] = refl
nothing_said (w ∷ l) = go w (nothing_said l)
  where
    go : (w : What) → weight nothing l ≡ 0 → heavy nothing w + weight nothing l ≡ 0
    go item_begins e = omega (arith, e)
    go item_ends e = omega (arith, e)
    go (there n) e = omega (arith, e)
    go (absent n) e = omega (arith, e)
    go (value k f v) e = omega (arith, e)

nothing_due : (sh : Shape) → times nothing sh ≡ 0
nothing_due (end n) = refl
nothing_due (leaf o n k f rest) = go o (nothing_due rest)
  where
    go : (o : Occ) → times nothing rest ≡ 0 → begun_by nothing o n + 0 + times nothing rest ≡ 0
    go once e = omega (arith, e)
    go optional e = omega (arith, e)
    go many e = omega (arith, e)
    go more e = omega (arith, e)
nothing_due (group o n inner rest) = go o (nothing_due inner) (nothing_due rest)
  where
    go : (o : Occ) → times nothing inner ≡ 0 → times nothing rest ≡ 0 → begun_by nothing o n + times nothing inner + times nothing rest ≡ 0
    go once e f = omega (arith, e, f)
    go optional e f = omega (arith, e, f)
    go many e f = omega (arith, e, f)
    go more e f = omega (arith, e, f)

-- a weight that is no matter of what may be left out or repeated is the tree's
abbrev pub fixed : Weighing → Shape → Bool
fixed a sh = even a nothing sh

pub as_often : (a : Weighing) (sh : Shape) → fixed a sh ≡ true → (d : Doc sh) → Proper sh d → weight a (said sh d) ≡ times a sh
as_often a sh e d pr = omega (arith, balance a nothing sh e d pr, nothing_said (said sh d), nothing_due sh)

-- ---- what is counted: the items of a list, its values of a kind or of a field, the places where the payment type may stand
abbrev pub any_item : Weighing
any_item = record { by_field = λ k f. 0; an_item = 1; mark = λ b n. 0 }

abbrev pub a_kind : Kind → Weighing
a_kind j = record { by_field = λ k f. pick (same_kind k j) 1 0; an_item = 0; mark = λ b n. 0 }

abbrev pub a_field : Field → Weighing
a_field h = record { by_field = λ k f. pick (same_field f h) 1 0; an_item = 0; mark = λ b n. 0 }

-- a value of the field that is of no kind that t allows
abbrev pub a_stranger : Field → (Kind → Bool) → Weighing
a_stranger h t = record { by_field = λ k f. pick (same_field f h) (pick (t k) 0 1) 0; an_item = 0; mark = λ b n. 0 }

abbrev pub a_type : Weighing
a_type = record { by_field = λ k f. 0; an_item = 0; mark = λ b n. pick (is_type n) 1 0 }

pub weight_items : (ws : List What) → items_in ws ≡ weight any_item ws
weight_items [] = refl
weight_items (w ∷ l) = omega (arith, weight_items l, first w)
  where
    first : (w : What) → begun w ≡ heavy any_item w
    first item_begins = refl
    first item_ends = refl
    first (there n) = refl
    first (absent n) = refl
    first (value k f v) = refl

one_or_none : {A : Type 0} (b : Bool) (v : A) → length (pick b (v ∷ []) []) ≡ pick b 1 0
one_or_none true v = refl
one_or_none false v = refl

-- what each gives is counted by a weighing of each
weight_gathered : {A : Type 0} (a : Weighing) (f : What → List A) → ((w : What) → length (f w) ≡ heavy a w) → (ws : List What) → length (gathered f ws) ≡ weight a ws
weight_gathered a f e [] = refl
weight_gathered a f e (w ∷ l) = omega (arith, length-append (f w) (gathered f l), weight_gathered a f e l, e w)

pub weight_kind : (j : Kind) (ws : List What) → length (values_of j ws) ≡ weight (a_kind j) ws
weight_kind j = weight_gathered (a_kind j) (of_kind j) first
  where
    first : (w : What) → length (of_kind j w) ≡ heavy (a_kind j) w
    first item_begins = refl
    first item_ends = refl
    first (there n) = refl
    first (absent n) = refl
    first (value k f v) = one_or_none (same_kind k j) v

pub weight_field : (h : Field) (ws : List What) → length (values_at h ws) ≡ weight (a_field h) ws
weight_field h = weight_gathered (a_field h) (of_field h) first
  where
    first : (w : What) → length (of_field h w) ≡ heavy (a_field h) w
    first item_begins = refl
    first item_ends = refl
    first (there n) = refl
    first (absent n) = refl
    first (value k f v) = one_or_none (same_field f h) v

pub weight_types : (ws : List What) → length (types_in ws) ≡ weight a_type ws
weight_types = weight_gathered a_type of_type first
  where
    first : (w : What) → length (of_type w) ≡ heavy a_type w
    first item_begins = refl
    first item_ends = refl
    first (there n) = one_or_none (is_type n) true
    first (absent n) = one_or_none (is_type n) false
    first (value k f v) = refl

-- ---- so for any tree in which it is fixed
pub of_kind_lem : (j : Kind) (sh : Shape) → fixed (a_kind j) sh ≡ true → (d : Doc sh) → Proper sh d → length (values_of j (said sh d)) ≡ times (a_kind j) sh
of_kind_lem j sh e d pr = weight_kind j (said sh d) ∙ as_often (a_kind j) sh e d pr

pub at_field : (h : Field) (sh : Shape) → fixed (a_field h) sh ≡ true → (d : Doc sh) → Proper sh d → length (values_at h (said sh d)) ≡ times (a_field h) sh
at_field h sh e d pr = weight_field h (said sh d) ∙ as_often (a_field h) sh e d pr
