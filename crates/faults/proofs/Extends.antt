-- What stands in a message, beside what stands in it continued in any way: the same, entry by entry, to the same end or the same fault;
-- or the first breaks off with 3 at its end, and the second goes on as it may. (A message beside itself: where its entries and faults lie.)
use mathlib.Core.Path.{◌≡◌, refl}
use mathlib.Core.Bool.{Bool, true, false}
use mathlib.Core.List.{List, ◌++◌}
use mathlib.Core.Logic.{◌⊎◌, inl, inr}
use Prim.Native.Nat.{ℕ, zero, suc, ◌+◌, ◌-◌, ◌≤◌, ◌<◌}
use Prim.Native.String.{String}
use native.Mathlib.Omega.{arith}
use borrow.Author.Tests.{ltb-true, lt-ltb}
use lib.Dec.{ltb}
use lib.ListN.{length, drop, length-append, length-drop}
use Rattle.text.specs.Truth.{pick, lead}
use Rattle.text.specs.Quoted.{bytes}
use Rattle.text.proofs.Scan.{lead_le}
use Rattle.tags.specs.declared.Look.{Look}
use Rattle.tags.specs.Tags.{white, skipped, look, on_look, exactly, end_tag, plain_tag, amount_tag, currency, start_tag, currency_place, in_euro}
use Rattle.tags.specs.Values.{in_value, value_at, behind_value}
use Rattle.tags.proofs.Looks.{exactly_length}
use Rattle.profile.specs.declared.Kind.{Kind}
use Rattle.profile.specs.declared.Field.{Field}
use Rattle.profile.specs.Kinds.{is_amount}
use Rattle.profile.specs.Tree.{Occ, once, optional, many, more, Shape, end, leaf, group}
use Rattle.reading.specs.Trace.{What, item_begins, item_ends, there, absent, value, Entry, ◌at◌, Trace, met, up_to, fault, and_then, begins, ends, priced, closed, valued, leaf_body, group_body, missing, turn, again, follow, child, trace}
use Rattle.reading.proofs.Flat.{never}
use Rattle.faults.specs.Refusals.{◌among◌, of_form}
use Rattle.faults.proofs.Fronts.{Sights, whole, cut, other, seen, runs, lies_in, none_left}

-- an entry lies within a message of l bytes; all but an item's end have a byte there
abbrev pub needs : What → ℕ
needs item_begins = 1
needs item_ends = 0
needs (there n) = 1
needs (absent n) = 1
needs (value k f v) = 1

abbrev pub Placed : ℕ → Entry → Type 0
Placed l e = e.place + needs e.what ≤ l

-- traces of l bytes and of the same with more behind, from a place on
pub data Extends (l a : ℕ) : Trace → Trace → Type 0 where
  also : (e : Entry) {s t : Trace} → Placed l e → Extends l a s t → Extends l a (met e s) (met e t)
  done : (p : ℕ) → a ≤ p → p ≤ l → Extends l a (up_to p) (up_to p)
  wrong : (n q : ℕ) → n among of_form → (n ≡ 3 → ⊥) → q < l → Extends l a (fault n q) (fault n q)
  ended : {t : Trace} → Extends l a (fault 3 l) t

pub weaken : {l a b : ℕ} {s t : Trace} → b ≤ a → Extends l a s t → Extends l b s t
weaken h (also e g x) = also e g (weaken h x)
weaken h (done p g i) = done p (omega arith) i
weaken h (wrong n q r z g) = wrong n q r z g
weaken h ended = ended

pub then_ext : {l a : ℕ} {s t : Trace} (f g : ℕ → Trace) → Extends l a s t
    → ((p : ℕ) → a ≤ p → p ≤ l → Extends l p (f p) (g p)) → Extends l a (and_then s f) (and_then t g)
then_ext f g (also e h x) k = also e h (then_ext f g x k)
then_ext f g (done p h i) k = weaken h (k p h i)
then_ext f g (wrong n q r z h) k = wrong n q r z h
then_ext f g ended k = ended

-- another tag than is due
order : {l a : ℕ} (p : ℕ) → p < l → Extends l a (fault 4 p) (fault 4 p)
order p h = wrong 4 p refl (λ e. omega arith) h

-- ---- an element's beginning and end, and where it is missing
module _ {l : ℕ} (n : String) (p : ℕ) where
  begins-ext : {a : ℕ} {s t : Trace} (o : Occ) → p < l → Extends l a s t → Extends l a (begins o n p s) (begins o n p t)
  begins-ext once h x = x
  begins-ext optional h x = also (there n at p) (omega arith) x
  begins-ext many h x = also (item_begins at p) (omega arith) x
  begins-ext more h x = also (item_begins at p) (omega arith) x

  missing-ext : {a : ℕ} {s t : Trace} (o : Occ) → p < l → Extends l a s t → Extends l a (missing o n p s) (missing o n p t)
  missing-ext once h x = order p h
  missing-ext optional h x = also (absent n at p) (omega arith) x
  missing-ext many h x = order p h
  missing-ext more h x = x

ends_ext : {l : ℕ} (o : Occ) (p : ℕ) → p ≤ l → Extends l p (ends o p) (ends o p)
ends_ext once p h = done p (omega arith) h
ends_ext optional p h = done p (omega arith) h
ends_ext many p h = also (item_ends at p) (omega arith) (done p (omega arith) h)
ends_ext more p h = also (item_ends at p) (omega arith) (done p (omega arith) h)

-- a start tag is not empty, and an amount's has its currency
pub start_wide : (b : Bool) (n : String) → (0 < length (start_tag b n)) × (b ≡ true → 5 ≤ length (start_tag b n))
start_wide true n = (omega arith, λ e. omega (arith, length-append (exactly (amount_tag n)) currency))
start_wide false n = (omega arith, λ e. never (cc))

module _ (m x : List ℕ) where
  abbrev Ext : ℕ → Trace → Trace → Type 0
  Ext a s t = Extends (length m) a s t

  -- ---- past white space
  pub skip_ext : (f g : ℕ → Trace) (p : ℕ) → p ≤ length m → ((q : ℕ) → p ≤ q → q ≤ length m → Ext q (f q) (g q)) → f (length m) ≡ fault 3 (length m)
      → Ext p (f (skipped m p)) (g (skipped (m ++ x) p))
  skip_ext f g p h k e = go (runs m x p h white)
    where
      go : (skipped m p ≡ length m) ⊎ (lead white (drop p (m ++ x)) ≡ lead white (drop p m)) → Ext p (f (skipped m p)) (g (skipped (m ++ x) p))
      go (inl i) = rw (i, e) ended
      go (inr i) = rw i (weaken (omega arith) (k (skipped m p) (omega arith) (omega (arith, lead_le white (drop p m), length-drop p m))))

  -- ---- fixed bytes: what is so where they lie whole, and where others stand there
  look-ext : (tag : List (ℕ → Bool)) (p : ℕ) → p ≤ length m → {a : ℕ} (s t u v z : Trace) → (p + length tag ≤ length m → Ext a s t) → (p < length m → Ext a u v)
      → Ext a (on_look (look tag (drop p m)) s (fault 3 (length m)) u) (on_look (look tag (drop p (m ++ x))) t z v)
  look-ext tag p h {a} s t u v z f g = go (look tag (drop p m)) (look tag (drop p (m ++ x))) (seen m x p h tag)
    where
      go : (k l : Look) → Sights p (p + length tag) (length m) k l → Ext a (on_look k s (fault 3 (length m)) u) (on_look l t z v)
      go k l (whole w) = f w
      go k l (cut w) = ended
      go k l (other w) = g w

  closed-ext : (n : String) (p : ℕ) → p ≤ length m → Ext p (closed n m p) (closed n (m ++ x) p)
  unfolding closed
  closed-ext n p h =
      look-ext (exactly (end_tag n)) p h (up_to (p + length (end_tag n))) (up_to (p + length (end_tag n))) (fault 4 p) (fault 4 p) (fault 3 (length (m ++ x)))
      (λ w. done (p + length (end_tag n)) (omega arith) (omega (arith, exactly_length (end_tag n)))) (order p)

  closed-ends : (n : String) → closed n m (length m) ≡ fault 3 (length m)
  unfolding closed
  closed-ends n = rw (none_left (exactly (end_tag n)) (omega arith) m)

  -- ---- a value, and its end tag
  euro-same : (p : ℕ) → p ≤ length m → 5 ≤ p → in_euro (m ++ x) p ≡ in_euro m p
  unfolding in_euro currency_place
  euro-same p h five =
      go (look (exactly (bytes "EUR")) (drop (p - 5) m)) (look (exactly (bytes "EUR")) (drop (p - 5) (m ++ x))) (seen m x (p - 5) (omega arith) (exactly (bytes "EUR")))
    where
      go : (k l : Look) → Sights (p - 5) (p - 5 + 3) (length m) k l → on_look l true false false ≡ on_look k true false false
      go k l (whole g) = refl
      go k l (cut g) = never (omega arith)
      go k l (other g) = refl

  pub priced_ext : (b : Bool) (p : ℕ) → p ≤ length m → (b ≡ true → 5 ≤ p) → Ext p (priced b m p) (priced b (m ++ x) p)
  unfolding currency_place
  priced_ext false p h five = done p (omega arith) h
  priced_ext true p h five = let w : 5 ≤ p = five refl in rw (euro-same p h w) (go w (in_euro m p))
    where
      go : 5 ≤ p → (b : Bool) → Ext p (pick b (up_to p) (fault 6 (p - 5))) (pick b (up_to p) (fault 6 (p - 5)))
      go w true = done p (omega arith) h
      go w false = wrong 6 (p - 5) refl (λ e. omega arith) (omega arith)

  pub valued_ext : (n : String) (k : Kind) (f : Field) (p : ℕ) → p ≤ length m → Ext p (valued n k f m p) (valued n k f (m ++ x) p)
  unfolding valued
  valued_ext n k f p h = go (ltb (behind_value m p) (length m)) refl (runs m x p h in_value)
    where
      go : (b : Bool) → ltb (behind_value m p) (length m) ≡ b → (behind_value m p ≡ length m) ⊎ (lead in_value (drop p (m ++ x)) ≡ lead in_value (drop p m))
          → Ext p (pick b (met (value k f (value_at m p) at p) (closed n m (behind_value m p))) (fault 3 (length m)))
          (pick (ltb (behind_value (m ++ x) p) (length (m ++ x))) (met (value k f (value_at (m ++ x) p) at p) (closed n (m ++ x) (behind_value (m ++ x) p))) (fault 3 (length (m ++ x))))
      go false e r = ended
      go true e (inl i) = never (omega (arith, ltb-true (behind_value m p) (length m) e))
      go true e (inr i) =
          let g : behind_value m p < length m = ltb-true (behind_value m p) (length m) e in
          rw (i, lies_in m x p h (lead in_value (drop p m)) (omega arith), lt-ltb (behind_value m p) (length (m ++ x)) (omega (arith, length-append m x)))
          (also (value k f (value_at m p) at p) (omega arith) (weaken (omega arith) (closed-ext n (behind_value m p) (omega arith))))

  -- ---- an element of a group
  -- a body, at a start tag that lies whole
  abbrev Bodies : List (ℕ → Bool) → (ℕ → Trace) → (ℕ → Trace) → Type 0
  Bodies tag b c = (p : ℕ) → p + length tag ≤ length m → Ext (p + length tag) (b p) (c p)

  abbrev Exts : ℕ → (ℕ → Trace) → (ℕ → Trace) → Type 0
  Exts a f g = (p : ℕ) → a ≤ p → p ≤ length m → Ext p (f p) (g p)

  module _ (n : String) (tag : List (ℕ → Bool)) (some : 0 < length tag) (b c r s : ℕ → Trace) (body : Bodies tag b c) (rest : Exts 0 r s) where
    turn-ext : (o : Occ) (f g : ℕ → Trace) (p : ℕ) → p ≤ length m → Exts (suc p) f g → Ext p (turn o n tag m b f r p) (turn o n tag (m ++ x) c g s p)
    turn-ext o f g p h next =
        skip_ext (λ q. on_look (look tag (drop q m)) (and_then (b q) f) (fault 3 (length m)) (missing o n q (r q)))
        (λ q. on_look (look tag (drop q (m ++ x))) (and_then (c q) g) (fault 3 (length (m ++ x))) (missing o n q (s q))) p h
        (λ q i j. look-ext tag q j (and_then (b q) f) (and_then (c q) g) (missing o n q (r q)) (missing o n q (s q)) (fault 3 (length (m ++ x)))
        (λ w. weaken (omega arith) (then_ext f g (body q w) (λ t d e. next t (omega arith) e))) (λ w. missing-ext n q o w (rest q (omega arith) j)))
        (rw (none_left tag some m))

    -- each time round moves on, so there is room for as many as there are bytes
    again-ext : (i j p : ℕ) → p ≤ length m → length m < i + p → length m < j + p → Ext p (again i n tag m b r p) (again j n tag (m ++ x) c s p)
    again-ext zero j p h d e = never (omega arith)
    again-ext (suc i) zero p h d e = never (omega arith)
    again-ext (suc i) (suc j) p h d e =
        turn-ext more (again i n tag m b r) (again j n tag (m ++ x) c s) p h (λ q u v. again-ext i j q v (omega arith) (omega arith))

    follow-ext : (o : Occ) → Exts 1 (follow o (length m) n tag m b r) (follow o (length (m ++ x)) n tag (m ++ x) c s)
    follow-ext once p u v = rest p (omega arith) v
    follow-ext optional p u v = rest p (omega arith) v
    follow-ext many p u v = again-ext (length m) (length (m ++ x)) p v (omega arith) (omega (arith, length-append m x))
    follow-ext more p u v = again-ext (length m) (length (m ++ x)) p v (omega arith) (omega (arith, length-append m x))

    child-ext : (o : Occ) → Exts 0 (child o n tag m b r) (child o n tag (m ++ x) c s)
    child-ext o p u v =
        turn-ext o (follow o (length m) n tag m b r) (follow o (length (m ++ x)) n tag (m ++ x) c s) p v (λ q d e. follow-ext o q (omega arith) e)

  pub leaf_ext : (o : Occ) (n : String) (k : Kind) (f : Field) → Bodies (start_tag (is_amount k) n) (leaf_body o n k f m) (leaf_body o n k f (m ++ x))
  leaf_ext o n k f p h =
      let w = start_wide (is_amount k) n in
      let q : ℕ = p + length (start_tag (is_amount k) n) in
      begins-ext n p o (omega (arith, w.0))
      (then_ext (ends o) (ends o)
      (then_ext (valued n k f m) (valued n k f (m ++ x)) (priced_ext (is_amount k) q h (λ e. omega (arith, w.1 e))) (λ t d e. valued_ext n k f t e))
      (λ t d e. ends_ext o t e))

  pub group_ext : (o : Occ) (n : String) (i j : ℕ → Trace) → Exts 0 i j → Bodies (exactly (plain_tag n)) (group_body o n i) (group_body o n j)
  group_ext o n i j k p h =
      begins-ext n p o (omega arith)
      (rw (exactly_length (plain_tag n)) (then_ext (ends o) (ends o) (k (p + length (plain_tag n)) (omega arith) (omega (arith, exactly_length (plain_tag n)))) (λ t d e. ends_ext o t e)))

  -- ---- by the tree
  pub trace_ext : (sh : Shape) (p : ℕ) → p ≤ length m → Ext p (trace sh m p) (trace sh (m ++ x) p)
  trace_ext (end n) p h = skip_ext (closed n m) (closed n (m ++ x)) p h (λ q i j. closed-ext n q j) (closed-ends n)
  trace_ext (leaf o n k f rest) p h =
      child-ext n (start_tag (is_amount k) n) (start_wide (is_amount k) n).0 (leaf_body o n k f m) (leaf_body o n k f (m ++ x)) (trace rest m) (trace rest (m ++ x))
      (leaf_ext o n k f) (λ q i j. trace_ext rest q j) o p (omega arith) h
  trace_ext (group o n inner rest) p h =
      child-ext n (exactly (plain_tag n)) (omega arith) (group_body o n (trace inner m)) (group_body o n (trace inner (m ++ x))) (trace rest m) (trace rest (m ++ x))
      (group_ext o n (trace inner m) (trace inner (m ++ x)) (λ q i j. trace_ext inner q j)) (λ q i j. trace_ext rest q j) o p (omega arith) h
