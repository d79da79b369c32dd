-- What was noted of a field's place: there lies its last value, in an item that stands and in all of a message.
use mathlib.Core.Path.{◌≡◌, refl, sym, ap, ◌∙◌}
use mathlib.Core.Bool.{Bool, true, false}
use mathlib.Core.List.{List, [], ◌∷◌, ◌++◌, append-nil}
use Prim.Native.Nat.{ℕ, ◌+◌, ◌≤◌}
use Prim.Native.String.{String}
use native.Mathlib.Omega.{arith}
use borrow.Author.Tests.{ne_eqb}
use lib.Dec.{eqb}
use lib.ListN.{length}
use Rattle.text.specs.Truth.{pick}
use Rattle.tags.specs.Values.{value_at}
use Rattle.profile.specs.declared.Kind.{Kind}
use Rattle.profile.specs.declared.Field.{Field}
use Rattle.profile.specs.declared.Version.{Version}
use Rattle.profile.specs.Fields.{same_field}
use Rattle.profile.specs.Kinds.{is_amount}
use Rattle.profile.specs.Tree.{Occ, once, optional, many, more, Shape, end, leaf, group}
use Rattle.profile.specs.Profile.{profile}
use Rattle.reading.specs.Trace.{What, item_begins, item_ends, there, absent, value, Entry, ◌at◌, Trace, begins, ends, trace, message}
use Rattle.reading.specs.Noted.{noted}
use Rattle.reading.specs.Verdict.{accepted}
use Rattle.reading.specs.Rules.{of_field, values_at, values_of}
use Rattle.reading.specs.Judged.{whats, last_of, place_in, listed, judged}
use Rattle.reading.specs.Items.{Item, notes_of}
use Rattle.reading.proofs.Lists.{whats_append, values_append}
use Rattle.reading.proofs.Each.{All, AllIn, all_flat, Comes, trace_all}
use Rattle.reading.proofs.Flat.{flat, goes_flat, goes_whole}
use Rattle.items.specs.Sure.{sure}
use Rattle.items.specs.Chain.{LiesAt, AllLie, around, Stands, Itemized}
use Rattle.items.specs.Places.{field_from, field_place, held_at}
use Rattle.items.proofs.Inner.{behind_tag_lem}
use Rattle.items.proofs.Parts.{surely}
use Rattle.items.proofs.Accepted.{accepted_chained}

-- ---- what is noted of an item alone says what it holds
module _ (x : Item) (inner : List Entry) where
  around-said : whats (around x inner) ≡ item_begins ∷ (whats inner ++ (item_ends ∷ []))
  around-said = ap (λ (l : List What). item_begins ∷ l) (whats_append inner ((item_ends at x.to) ∷ []))

  around-of : (k : Kind) → values_of k (whats (around x inner)) ≡ values_of k (whats inner)
  around-of k = ap (values_of k) around-said ∙ (values_append k (whats inner) (item_ends ∷ []) ∙ append-nil (values_of k (whats inner)))

  around-place : (f : Field) → field_place f (around x inner) ≡ field_place f inner
  around-place f = go 0 inner
    where
      go : (q : ℕ) (l : List Entry) → field_from q f (l ++ ((item_ends at x.to) ∷ [])) ≡ field_from q f l
      go q [] = refl
      go q (e ∷ l) = go (place_in (of_field f e.what) e.place q) l

-- so of an item that stands there
module _ {v : Version} {m : List ℕ} {p : ℕ} {x : Item} (s : Stands v m p x) where
  pub noted_of : (k : Kind) → values_of k (whats (around x s.inner)) ≡ values_of k x.holds
  noted_of k = around-of x s.inner k ∙ ap (values_of k) s.holds

-- ---- an entry that is no value, or whose value lies at its place, behind a tag
module _ (m : List ℕ) where
  abbrev pub LiesIn : What → ℕ → Type 0
  LiesIn item_begins p = Unit {0}
  LiesIn item_ends p = Unit {0}
  LiesIn (there n) p = Unit {0}
  LiesIn (absent n) p = Unit {0}
  LiesIn (value k f v) p = (value_at m p ≡ v) × (1 ≤ p)

  abbrev pub Lying : Entry → Type 0
  Lying e = LiesIn e.what e.place

  comes : (sh : Shape) → Comes (λ o. Unit {0}) (λ k f n. Unit {0}) sh
  comes (end n) = tt
  comes (leaf o n k f rest) = (tt, tt, comes rest)
  comes (group o n inner rest) = (tt, comes inner, comes rest)

  begin : (o : Occ) → Unit {0} → (n : String) (q : ℕ) (t : Trace) → All Lying t → All Lying (begins o n q t)
  begin once a n q t h = h
  begin optional a n q t h = (tt, h)
  begin many a n q t h = (tt, h)
  begin more a n q t h = (tt, h)

  finish : (o : Occ) → Unit {0} → (q : ℕ) → All Lying (ends o q)
  finish once a q = tt
  finish optional a q = tt
  finish many a q = (tt, tt)
  finish more a q = (tt, tt)

  -- whatever tree it is read by
  pub all_lying : (sh : Shape) (p : ℕ) → AllIn Lying (flat (trace sh m p))
  all_lying sh p =
      all_flat Lying (trace sh m p)
      (trace_all m Lying (λ o. Unit {0}) (λ k f n. Unit {0}) (λ n k f b p q e w h. (refl, behind_tag_lem (is_amount k) n p q e)) begin (λ n q. tt) finish sh (comes sh) p)

  within : (es : List Entry) → AllLie m es → AllIn Lying es
  within [] h = tt
  within (e ∷ l) h = (go e.what h.0, within l h.1)
    where
      go : (w : What) → LiesAt m w e.place → LiesIn w e.place
      go item_begins h = tt
      go item_ends h = tt
      go (there n) h = tt
      go (absent n) h = tt
      go (value k f v) h = h

  held-there : (p : ℕ) → 1 ≤ p → held_at m p ≡ value_at m p
  held-there p h = rw (ne_eqb p 0 (omega arith))

  -- ---- at the place of the last value lies the last value
  module _ (f : Field) where
    one-held : (w : What) (p q : ℕ) (d : List ℕ) (l : List (List ℕ)) (to : ℕ → ℕ) → LiesIn w p → held_at m q ≡ d
        → ((q : ℕ) (d : List ℕ) → held_at m q ≡ d → held_at m (to q) ≡ last_of d l) → held_at m (to (place_in (of_field f w) p q)) ≡ last_of d (of_field f w ++ l)
    one-held item_begins p q d l to h e k = k q d e
    one-held item_ends p q d l to h e k = k q d e
    one-held (there n) p q d l to h e k = k q d e
    one-held (absent n) p q d l to h e k = k q d e
    one-held (value i g v) p q d l to h e k = go (same_field g f)
      where
        go : (b : Bool) → held_at m (to (place_in (pick b (v ∷ []) []) p q)) ≡ last_of d (pick b (v ∷ []) [] ++ l)
        go true = k p v (held-there p h.1 ∙ h.0)
        go false = k q d e

    held-from : (es : List Entry) (q : ℕ) (d : List ℕ) → AllIn Lying es → held_at m q ≡ d → held_at m (field_from q f es) ≡ last_of d (values_at f (whats es))
    held-from [] q d h e = e
    held-from (x ∷ l) q d h e = one-held x.what x.place q d (values_at f (whats l)) (λ q. field_from q f l) h.0 e (λ q d. held-from l q d h.1)

    -- and where there is one, that is no place 0
    one-there : (w : What) (p q : ℕ) → LiesIn w p → 1 ≤ q + length (of_field f w) → 1 ≤ place_in (of_field f w) p q
    one-there item_begins p q h e = omega (arith, e)
    one-there item_ends p q h e = omega (arith, e)
    one-there (there n) p q h e = omega (arith, e)
    one-there (absent n) p q h e = omega (arith, e)
    one-there (value i g v) p q h e = go (same_field g f) e
      where
        go : (b : Bool) → 1 ≤ q + length (pick b (v ∷ []) []) → 1 ≤ place_in (pick b (v ∷ []) []) p q
        go true e = h.1
        go false e = omega (arith, e)

    there-from : (es : List Entry) (q : ℕ) → AllIn Lying es → 1 ≤ q + length (values_at f (whats es)) → 1 ≤ field_from q f es
    there-from [] q h e = omega (arith, e)
    there-from (x ∷ l) q h e = go (of_field f x.what) refl (λ r. there-from l r h.1)
      where
        go : (v : List (List ℕ)) → of_field f x.what ≡ v → ((r : ℕ) → 1 ≤ r + length (values_at f (whats l)) → 1 ≤ field_from r f l)
            → 1 ≤ field_from (place_in v x.place q) f l
        go [] z k = k q (rw z at e)
        go (y ∷ v) z k =
            let n : 1 ≤ place_in (y ∷ v) x.place q = rw z at (one-there x.what x.place q h.0 (rw z (omega arith))) in
            k (place_in (y ∷ v) x.place q) (omega (arith, n))

    -- a place of these or else another one is what it is to go on from the other one
    one-or : (w : What) (p q r : ℕ) → LiesIn w p → pick (eqb (place_in (of_field f w) p q) 0) r (place_in (of_field f w) p q) ≡ place_in (of_field f w) p (pick (eqb q 0) r q)
    one-or item_begins p q r h = refl
    one-or item_ends p q r h = refl
    one-or (there n) p q r h = refl
    one-or (absent n) p q r h = refl
    one-or (value i g v) p q r h = go (same_field g f)
      where
        go : (b : Bool) → pick (eqb (place_in (pick b (v ∷ []) []) p q) 0) r (place_in (pick b (v ∷ []) []) p q) ≡ place_in (pick b (v ∷ []) []) p (pick (eqb q 0) r q)
        go true = rw (ne_eqb p 0 (omega (arith, h.1)))
        go false = refl

    from_or : (es : List Entry) (q r : ℕ) → AllIn Lying es → pick (eqb (field_from q f es) 0) r (field_from q f es) ≡ field_from (pick (eqb q 0) r q) f es
    from_or [] q r h = refl
    from_or (x ∷ l) q r h =
        from_or l (place_in (of_field f x.what) x.place q) r h.1 ∙ ap (λ (k : ℕ). field_from k f l) (one-or x.what x.place q r h.0)

    module _ {v : Version} {p : ℕ} {x : Item} (s : Stands v m p x) where
      its : values_at f (whats s.inner) ≡ values_at f x.holds
      its = ap (values_at f) s.holds

      -- An item that stands: what lies at the place noted of a field is its last value, or there is none and nothing was noted.
      pub item_held : held_at m (field_place f (around x s.inner)) ≡ last_of [] (values_at f x.holds)
      item_held = ap (held_at m) (around-place x s.inner f) ∙ (held-from s.inner 0 [] (within s.inner s.lie) refl ∙ ap (λ (l : List (List ℕ)). last_of [] l) its)

      -- Its own place, or else another one: there lies its last value, or else what lies at the other.
      pub item_or_held : (r : ℕ) → held_at m (pick (eqb (field_place f (around x s.inner)) 0) r (field_place f (around x s.inner))) ≡ last_of (held_at m r) (values_at f x.holds)
      item_or_held r =
          ap (λ (k : ℕ). held_at m (pick (eqb k 0) r k)) (around-place x s.inner f)
          ∙ (ap (held_at m) (from_or s.inner 0 r (within s.inner s.lie))
          ∙ (held-from s.inner r (held_at m r) (within s.inner s.lie) refl ∙ ap (λ (l : List (List ℕ)). last_of (held_at m r) l) its))

    -- ---- all of an accepted message
    module _ (n c : ℕ) (e : judged m ≡ accepted n c) where
      abbrev it : Itemized m n
      it = accepted_chained m n c e

      abbrev all : Trace
      all = trace (profile it.version) m it.place

      all-is : notes_of (noted listed (message m) []) ≡ flat all
      all-is = ap notes_of it.goes ∙ goes_flat all [] it.ended it.reads

      -- the same
      pub accepted_held : held_at m (field_place f (notes_of (noted listed (message m) []))) ≡ last_of [] (values_at f (whats (notes_of (noted listed (message m) []))))
      accepted_held = rw all-is (held-from (flat all) 0 [] (all_lying (profile it.version) it.place) refl)

      -- where one is surely there, its place gives it
      pub accepted_there : ((v : Version) → sure f (profile v) ≡ true)
          → value_at m (field_place f (notes_of (noted listed (message m) []))) ≡ last_of [] (values_at f (whats (notes_of (noted listed (message m) []))))
      accepted_there s =
          let k = it.version in
          let one : 1 ≤ length (values_at f (whats (flat all))) = surely m f (profile k) (s k) it.place it.ended.at (goes_whole all [] it.ended it.reads) in
          let h : 1 ≤ field_place f (flat all) = there-from (flat all) 0 (all_lying (profile k) it.place) (omega (arith, one)) in
          sym (held-there (field_place f (notes_of (noted listed (message m) []))) (rw all-is h)) ∙ accepted_held
