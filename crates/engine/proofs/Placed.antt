-- Where the TxIds begin that were read, along parts of a trace: only a value adds one.
use mathlib.Core.Path.{◌≡◌, refl, ap, ◌∙◌}
use mathlib.Core.Bool.{Bool, true, false}
use mathlib.Core.List.{List}
use Prim.Native.Nat.{ℕ, suc, ◌+◌, ◌≤◌, ◌<◌}
use native.Mathlib.Numerals.{add-one}
use native.Mathlib.Omega.{arith}
use borrow.Author.Tests.{lt-ltb, le-ltb}
use Prim.Native.String.{String}
use lib.Dec.{ltb}
use lib.ListN.{length, drop, get_or, set}
use Rattle.text.specs.Truth.{pick}
use Rattle.text.proofs.Truths.{both_false}
use Rattle.tags.specs.declared.Look.{Look}
use Rattle.tags.specs.declared.Look.TheVariants.{Whole, Cut, Other}
use Rattle.tags.specs.Tags.{skipped, look, on_look, currency_place, in_euro}
use Rattle.tags.specs.Values.{value_at, behind_value}
use Rattle.profile.specs.declared.Kind.{Kind}
use Rattle.profile.specs.declared.Field.{Field}
use Rattle.profile.specs.declared.Field.TheVariants.{TxId}
use Rattle.profile.specs.Fields.{same_field}
use Rattle.profile.proofs.Fields.{same_field_lem}
use Rattle.profile.specs.Limits.{most_items}
use Rattle.profile.specs.Tree.{Occ, once, optional, many, more}
use Rattle.profile.specs.Profile.{is_type}
use Rattle.reading.specs.Trace.{value, ◌at◌, Trace, met, up_to, fault, and_then, begins, ends, missing, priced, turn}
use Rattle.reading.specs.Noted.{Reading, on, stop, onward, Ended}
use Rattle.notes.specs.declared.Notes.{Notes}
use Rattle.notes.specs.Notes.{value_noted, added_up, item_noted, type_noted, in_notes}
use Rattle.notes.specs.Steps.{reads}
use Rattle.notes.proofs.Notings.{here}
use Rattle.engine.specs.Engine.{closed_by, valued_by, filed, filed_by, filed_of, or_else, placed}

-- ---- one place more, where the field is TxId's and there is room
module _ (f : Field) (p : ℕ) (l : List ℕ) where
  pub file_other : (f ≡ TxId → ⊥) → l ≡ filed_by f p l
  unfolding filed_by
  file_other h = go (same_field f TxId) refl
    where
      go : (b : Bool) → same_field f TxId ≡ b → l ≡ pick b (filed p l) l
      go true e = absurd (h (same_field_lem f TxId e))
      go false e = refl

  module _ (h : f ≡ TxId) where
    pub file_none : length l ≡ 0 → l ≡ filed_by f p l
    unfolding filed_by
    file_none z = rw (h, le-ltb (suc (get_or l 0 0)) (length l) (omega (arith, z)), both_false (ltb (get_or l 0 0) most_items))

    pub file_full : most_items ≤ get_or l 0 0 → l ≡ filed_by f p l
    unfolding filed_by
    file_full z = rw (h, le-ltb (get_or l 0 0) most_items z)

    module _ (z : get_or l 0 0 < most_items) where
      pub file_last : length l ≤ get_or l 0 0 + 1 → l ≡ filed_by f p l
      unfolding filed_by
      file_last y = rw (h, lt-ltb (get_or l 0 0) most_items z, ← add-one (get_or l 0 0), le-ltb (get_or l 0 0 + 1) (length l) y)

      pub file_more : get_or l 0 0 + 1 < length l → set (set l 0 (get_or l 0 0 + 1)) (get_or l 0 0 + 1) p ≡ filed_by f p l
      unfolding filed_by
      file_more y = rw (h, lt-ltb (get_or l 0 0) most_items z, ← add-one (get_or l 0 0), lt-ltb (get_or l 0 0 + 1) (length l) y)

-- ---- one part behind another
pub then_placed : (t : Trace) (u : ℕ → Trace) (n : Notes) (l : List ℕ)
    → placed (and_then t u) n l ≡ or_else (reads t n) (λ r. placed (u r.at) r.notes (placed t n l)) (placed t n l)
then_placed (met e t) u n l = go (λ s. then_placed t u s (filed_of e.what e.place l)) (in_notes e n)
  where
    more : List ℕ
    more = filed_of e.what e.place l

    go : ((s : Notes) → placed (and_then t u) s more ≡ or_else (reads t s) (λ r. placed (u r.at) r.notes (placed t s more)) (placed t s more))
        → (x : Reading Notes) → or_else x (λ s. placed (and_then t u) s more) l
        ≡ or_else (onward x (reads t)) (λ r. placed (u r.at) r.notes (or_else x (λ s. placed t s more) l)) (or_else x (λ s. placed t s more) l)
    go h (on s) = h s
    go h (stop i q) = refl
then_placed (up_to p) u n l = refl
then_placed (fault k q) u n l = refl

-- what is noted at a place, and then something
at_once : (p : ℕ) (x : Reading Notes) (f : ℕ → Notes → List ℕ) (l : List ℕ) → or_else x (f p) l ≡ or_else (onward x (λ u. on (here p u))) (λ r. f r.at r.notes) l
at_once p (on u) f l = refl
at_once p (stop i q) f l = refl

-- ---- an element that comes or does not; a is its name, and b one that stands for it
module _ (o : Occ) (a b : String) (e : is_type a ≡ is_type b) (p : ℕ) where
  named : (c : Bool) (n : Notes) → pick (is_type a) (type_noted c p n) (on n) ≡ pick (is_type b) (type_noted c p n) (on n)
  named c n = ap (λ (i : Bool). pick i (type_noted c p n) (on n)) e

  pub begins_placed : (t : Trace) (n : Notes) (l : List ℕ) → placed (begins o a p t) n l ≡ or_else (reads (begins o b p (up_to p)) n) (λ r. placed t r.notes l) l
  begins_placed t n l = go o
    where
      go : (o : Occ) → placed (begins o a p t) n l ≡ or_else (reads (begins o b p (up_to p)) n) (λ r. placed t r.notes l) l
      go once = refl
      go optional = ap (λ (x : Reading Notes). or_else x (λ u. placed t u l) l) (named true n) ∙ at_once p (pick (is_type b) (type_noted true p n) (on n)) (λ q u. placed t u l) l
      go many = at_once p (item_noted p n) (λ q u. placed t u l) l
      go more = at_once p (item_noted p n) (λ q u. placed t u l) l

  pub missing_placed : (t : ℕ → Trace) (n : Notes) (l : List ℕ)
      → placed (missing o a p (t p)) n l ≡ or_else (reads (missing o b p (up_to p)) n) (λ r. placed (t r.at) r.notes l) l
  missing_placed t n l = go o
    where
      go : (o : Occ) → placed (missing o a p (t p)) n l ≡ or_else (reads (missing o b p (up_to p)) n) (λ r. placed (t r.at) r.notes l) l
      go once = refl
      go optional = ap (λ (x : Reading Notes). or_else x (λ u. placed (t p) u l) l) (named false n) ∙ at_once p (pick (is_type b) (type_noted false p n) (on n)) (λ q u. placed (t q) u l) l
      go many = refl
      go more = refl

-- an item's end
pub ends_placed : (o : Occ) (t : Trace) (n : Notes) (l : List ℕ) → placed (and_then t (ends o)) n l ≡ placed t n l
ends_placed o t n l = then_placed t (ends o) n l ∙ go o (reads t n)
  where
    go : (o : Occ) (x : Reading (Ended Notes)) → or_else x (λ r. placed (ends o r.at) r.notes (placed t n l)) (placed t n l) ≡ placed t n l
    go once (on s) = refl
    go optional (on s) = refl
    go many (on s) = refl
    go more (on s) = refl
    go o (stop i q) = refl

module _ (m : List ℕ) where
  pub closed_placed : (tag : List (ℕ → Bool)) (p : ℕ) (n : Notes) (l : List ℕ) → placed (closed_by tag m p) n l ≡ l
  unfolding closed_by
  closed_placed tag p n l = go (look tag (drop p m))
    where
      go : (x : Look) → placed (on_look x (up_to (p + length tag)) (fault 3 (length m)) (fault 4 p)) n l ≡ l
      go Whole = refl
      go Cut = refl
      go Other = refl

  pub priced_placed : (amount : Bool) (p : ℕ) (n : Notes) (l : List ℕ) → placed (priced amount m p) n l ≡ l
  priced_placed false p n l = refl
  priced_placed true p n l = go (in_euro m p)
    where
      go : (b : Bool) → placed (pick b (up_to p) (fault 6 (currency_place p))) n l ≡ l
      go true = refl
      go false = refl

  -- ---- by how a start tag lies; a is a name in place of the element's
  pub turn_placed : (o : Occ) (n a : String) → is_type n ≡ is_type a → (tag : List (ℕ → Bool)) (body next rest : ℕ → Trace) (p : ℕ) (x : Notes) (l : List ℕ)
      → placed (turn o n tag m body next rest p) x l
      ≡ on_look (look tag (drop (skipped m p) m))
      (or_else (reads (body (skipped m p)) x) (λ r. placed (next r.at) r.notes (placed (body (skipped m p)) x l)) (placed (body (skipped m p)) x l))
      l (or_else (reads (missing o a (skipped m p) (up_to (skipped m p))) x) (λ r. placed (rest r.at) r.notes l) l)
  turn_placed o n a e tag body next rest p x l = go (look tag (drop (skipped m p) m))
    where
      q : ℕ
      q = skipped m p

      go : (k : Look) → placed (on_look k (and_then (body q) next) (fault 3 (length m)) (missing o n q (rest q))) x l
          ≡ on_look k (or_else (reads (body q) x) (λ r. placed (next r.at) r.notes (placed (body q) x l)) (placed (body q) x l))
          l (or_else (reads (missing o a q (up_to q)) x) (λ r. placed (rest r.at) r.notes l) l)
      go Whole = then_placed (body q) next x l
      go Cut = refl
      go Other = missing_placed o n a e q rest x l

  -- a value: the place of a TxId that passed
  pub valued_placed : (tag : List (ℕ → Bool)) (k : Kind) (f : Field) (p : ℕ) (n : Notes) (l : List ℕ)
      → placed (valued_by tag k f m p) n l ≡ pick (ltb (behind_value m p) (length m)) (or_else (value_noted k f (value_at m p) p n) (λ u. filed_by f p l) l) l
  unfolding valued_by
  valued_placed tag k f p n l = go (ltb (behind_value m p) (length m))
    where
      then : (x : Reading Notes) → or_else (onward x (λ u. on (added_up k u))) (λ u. placed (closed_by tag m (behind_value m p)) u (filed_by f p l)) l ≡ or_else x (λ u. filed_by f p l) l
      then (on u) = closed_placed tag (behind_value m p) (added_up k u) (filed_by f p l)
      then (stop i q) = refl

      go : (b : Bool) → placed (pick b (met (value k f (value_at m p) at p) (closed_by tag m (behind_value m p))) (fault 3 (length m))) n l
          ≡ pick b (or_else (value_noted k f (value_at m p) p n) (λ u. filed_by f p l) l) l
      go true = then (value_noted k f (value_at m p) p n)
      go false = refl
