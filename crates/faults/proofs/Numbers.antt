-- Numbers of lists.
use mathlib.Core.Path.{◌≡◌, refl}
use mathlib.Core.Bool.{Bool, true, false, not}
use mathlib.Core.List.{List, [], ◌∷◌, ◌++◌}
use Prim.Native.Nat.{ℕ}
use borrow.Author.Tests.{eqb-true}
use lib.Dec.{eqb}
use Rattle.text.specs.Truth.{either, some, every}
use Rattle.text.proofs.Truths.{both_true, either_same}
use Rattle.reading.proofs.Flat.{never}
use Rattle.faults.specs.Refusals.{◌among◌}

-- ---- of one list, and so of two
some_append : (f : ℕ → Bool) (a b : List ℕ) → some f (a ++ b) ≡ either (some f a) (some f b)
some_append f [] b = refl
some_append f (n ∷ a) b = go (f n) (some_append f a b)
  where
    go : (t : Bool) → some f (a ++ b) ≡ either (some f a) (some f b) → either t (some f (a ++ b)) ≡ either (either t (some f a)) (some f b)
    go true e = refl
    go false e = e

pub among_left : (n : ℕ) (a b : List ℕ) → n among a → n among (a ++ b)
among_left n a b h = rw (some_append (eqb n) a b, h)

pub among_right : (n : ℕ) (a b : List ℕ) → n among b → n among (a ++ b)
among_right n a b h = rw (some_append (eqb n) a b, h) (either_same (some (eqb n) a))

-- a number that is not of a list
pub not_among : (k : ℕ) (l : List ℕ) (n : ℕ) → some (eqb k) l ≡ false → n among l → n ≡ k → ⊥
not_among k l n e h z = let y : some (eqb k) l ≡ true = rw z at h in never (cc)

-- two lists that have none in common
pub none_common : (a b : List ℕ) → every (λ k. not (some (eqb k) b)) a ≡ true → (n : ℕ) → n among a → n among b → ⊥
none_common [] b e n h g = never (cc)
none_common (k ∷ a) b e n h g =
    let t = both_true (not (some (eqb k) b)) (every (λ k. not (some (eqb k) b)) a) e in
    go (eqb n k) refl t.0 (none_common a b t.1 n) h
  where
    go : (c : Bool) → eqb n k ≡ c → not (some (eqb k) b) ≡ true → (n among a → n among b → ⊥) → either c (some (eqb n) a) ≡ true → ⊥
    go false z i r h = r h g
    go true z i r h = let y : some (eqb k) b ≡ true = rw (eqb-true n k z) at g in let x : false ≡ true = rw y at i in never (cc)
