-- How a loop reads the open entries from a place on, and what it leaves.
use mathlib.Core.Path.{◌≡◌, refl, ap, sym, ◌∙◌}
use mathlib.Core.Bool.{Bool, true, false, not}
use mathlib.Core.List.{List, [], ◌∷◌, ◌++◌}
use mathlib.Core.Logic.{inl, inr}
use Prim.Native.Nat.{ℕ, zero, suc, ◌+◌, ◌-◌, ◌≤◌, ◌<◌}
use native.Mathlib.Numerals.{add-one}
use native.Mathlib.Omega.{arith}
use borrow.Author.Tests.{lt-ltb, le-ltb, ltb-true}
use lib.Dec.{ltb}
use Rattle.std.proofs.Common.{cond, Some, None}
use Rattle.std.specs.List.{position_or_len, copy_within}
use lib.ListN.{length, take, drop, get_or}
use Rattle.text.specs.Truth.{either, pick}
use Rattle.text.proofs.Truths.{never, lt_or_ge}
use Rattle.book.specs.declared.Entry.{Entry}
use Rattle.book.specs.Book.{Key, has_key, is_open, sum_of, first_at, without, cents_of}
use Rattle.book.specs.Code.{place_in, left_out}

-- ---- whether a key is open, by where the first entry that has it stands
first_le : (k : Key) (l : List Entry) → first_at k l ≤ length l
first_le k [] = omega arith
first_le k (e ∷ l) = go (has_key k e) (first_le k l)
  where
    go : (b : Bool) → first_at k l ≤ length l → pick b 0 (suc (first_at k l)) ≤ suc (length l)
    go true h = omega arith
    go false h = omega arith

pub open_first : (k : Key) (l : List Entry) → is_open k l ≡ ltb (first_at k l) (length l)
open_first k [] = refl
open_first k (e ∷ l) = go (has_key k e) (open_first k l)
  where
    more : (a b : ℕ) → ltb (suc a) (suc b) ≡ ltb a b
    more a b = elim (lt_or_ge a b) [ inl h ↦ lt-ltb (suc a) (suc b) (omega arith) ∙ sym (lt-ltb a b h) | inr h ↦ le-ltb (suc a) (suc b) (omega arith) ∙ sym (le-ltb a b h) ]

    go : (b : Bool) → is_open k l ≡ ltb (first_at k l) (length l) → either b (is_open k l) ≡ ltb (pick b 0 (suc (first_at k l))) (suc (length l))
    go true h = sym (lt-ltb 0 (suc (length l)) (omega arith))
    go false h = h ∙ sym (more (first_at k l) (length l))

-- the code's search
first_is : (k : Key) (l : List Entry) → position_or_len (has_key k) l ≡ first_at k l
first_is k [] = refl
first_is k (e ∷ l) = go (has_key k e) (first_is k l)
  where
    go : (b : Bool) → position_or_len (has_key k) l ≡ first_at k l → cond (not b) (1 + position_or_len (has_key k) l) 0 ≡ pick b 0 (suc (first_at k l))
    go true h = refl
    go false h = omega (arith, h)

pub place_is : (k : Key) (l : List Entry) → cond (ltb (position_or_len (has_key k) l) (length l)) (Some (position_or_len (has_key k) l)) None ≡ place_in k l
place_is k l = rw (first_is k l, open_first k l) (go (ltb (first_at k l) (length l)))
  where
    go : (b : Bool) → cond b (Some (first_at k l)) None ≡ pick b (Some (first_at k l)) None
    go true = refl
    go false = refl

-- what a search that found tells
pub found : (k : Key) (l : List Entry) (i : ℕ) → place_in k l ≡ Some i → (is_open k l ≡ true) × (i ≡ first_at k l) × (i < length l)
found k l i = go (is_open k l) refl
  where
    go : (b : Bool) → is_open k l ≡ b → pick b (Some (first_at k l)) None ≡ Some i → (b ≡ true) × (i ≡ first_at k l) × (i < length l)
    go true e h =
        let z : i ≡ first_at k l = cc in
        (refl, z, omega (arith, ltb-true _ _ (sym (open_first k l) ∙ e)))
    go false e h = never (cc)

pub not_found : (k : Key) (l : List Entry) → place_in k l ≡ None → is_open k l ≡ false
not_found k l = go (is_open k l)
  where
    go : (b : Bool) → pick b (Some (first_at k l)) None ≡ None → b ≡ false
    go true h = never (cc)
    go false h = refl

-- the first entry with the key goes
pub first_out : (k : Key) (l : List Entry) → left_out (first_at k l) l ≡ without k l
first_out k [] = refl
first_out k (x ∷ l) = go (has_key k x) (first_out k l)
  where
    go : (b : Bool) → left_out (first_at k l) l ≡ without k l → left_out (pick b 0 (suc (first_at k l))) (x ∷ l) ≡ pick b l (x ∷ without k l)
    go true r = refl
    go false r = ap (λ (m : List Entry). x ∷ m) r

-- its cents, which are no more than the sum
pub cents_at : (k : Key) (l : List Entry) (d : Entry) → first_at k l < length l → (get_or l (first_at k l) d).cents ≡ cents_of k l
cents_at k [] d h = never (omega arith)
cents_at k (x ∷ l) d h = go (has_key k x) h (cents_at k l d)
  where
    go : (b : Bool) → pick b 0 (suc (first_at k l)) < suc (length l) → (first_at k l < length l → (get_or l (first_at k l) d).cents ≡ cents_of k l)
        → (get_or (x ∷ l) (pick b 0 (suc (first_at k l))) d).cents ≡ pick b x.cents (cents_of k l)
    go true h r = refl
    go false h r = r (omega arith)

pub cents_within : (k : Key) (l : List Entry) → cents_of k l ≤ sum_of l
cents_within k [] = omega arith
cents_within k (x ∷ l) = go (has_key k x) (cents_within k l)
  where
    go : (b : Bool) → cents_of k l ≤ sum_of l → pick b x.cents (cents_of k l) ≤ x.cents + sum_of l
    go true r = omega arith
    go false r = omega arith

-- ---- what stands at a place goes, and what is behind it up to a second place moves down: what `copy_within` leaves
module _ {A : Type 0} where
  left-is : (i k m : ℕ) (l : List A) → m ≡ i + k → m < length l → take i l ++ take k (drop (suc i) l) ≡ left_out i (take (suc m) l)
  left-is i k m [] e h = never (omega arith)
  left-is zero k m (x ∷ l) e h =
      let z : m ≡ k = omega arith in
      rw z refl
  left-is (suc i) k zero (x ∷ l) e h = never (omega arith)
  left-is (suc i) k (suc m) (x ∷ l) e h = ap (λ (t : List A). x ∷ t) (left-is i k m l (omega arith) (omega arith))

  pub closed_up : (i n : ℕ) (l : List A) → i < n → n ≤ length l → copy_within l (i + 1) n i ≡ left_out i (take n l) ++ drop (n - 1) l
  closed_up i n l h g =
      let k = n - suc i in
      let y : suc (n - 1) ≡ n = omega arith in
      let z : i + (n - (i + 1)) ≡ n - 1 = omega arith in
      rw (z, add-one i) (ap (λ (t : List A). t ++ drop (n - 1) l) (left-is i k (n - 1) l (omega arith) (omega arith) ∙ rw y))
