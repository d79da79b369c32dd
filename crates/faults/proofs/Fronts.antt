-- A text, and the same text with more behind it: what tests find in both, from a place on.
use mathlib.Core.Path.{◌≡◌, refl, ap}
use mathlib.Core.Bool.{Bool, true, false}
use mathlib.Core.List.{List, [], ◌∷◌, ◌++◌}
use mathlib.Core.Logic.{◌⊎◌, inl, inr}
use Prim.Native.Nat.{ℕ, suc, ◌+◌, ◌≤◌, ◌<◌}
use native.Mathlib.Omega.{arith}
use lib.ListN.{length, take, drop, length-drop, drop_of_length-le}
use lib.Seq.{take-append-le, drop-append-le}
use Rattle.text.specs.Truth.{pick, lead}
use Rattle.text.proofs.Truths.{never}
use Rattle.tags.specs.declared.Look.{Look}
use Rattle.tags.specs.declared.Look.TheVariants.{Whole, Cut, Other}
use Rattle.tags.specs.Tags.{look}

-- ---- tests between two places: in a text that ends at `end`, and in the longer one
pub data Sights (start to end : ℕ) : Look → Look → Type 0 where
  whole : to ≤ end → Sights start to end Whole Whole
  cut : {l : Look} → end < to → Sights start to end Cut l
  other : start < end → Sights start to end Other Other

sights_on : {f t e g u d : ℕ} {k l : Look} → (t ≤ e → u ≤ d) → (e < t → d < u) → (f < e → g < d) → Sights f t e k l → Sights g u d k l
sights_on a b c (whole h) = whole (a h)
sights_on a b c (cut h) = cut (b h)
sights_on a b c (other h) = other (c h)

sights : (t : List (ℕ → Bool)) (s z : List ℕ) → Sights 0 (length t) (length s) (look t s) (look t (s ++ z))
sights [] s z = whole (omega arith)
sights (f ∷ t) [] z = cut (omega arith)
sights (f ∷ t) (c ∷ s) z = go (f c) (sights t s z)
  where
    go : (b : Bool) → Sights 0 (length t) (length s) (look t s) (look t (s ++ z))
        → Sights 0 (suc (length t)) (suc (length s)) (pick b (look t s) Other) (pick b (look t (s ++ z)) Other)
    go true h = sights_on (λ g. omega arith) (λ g. omega arith) (λ g. omega arith) h
    go false h = other (omega arith)

-- ---- a run of bytes that pass: up to the end of the text, or as long in both
runs_in : (f : ℕ → Bool) (s z : List ℕ) → (lead f s ≡ length s) ⊎ (lead f (s ++ z) ≡ lead f s)
runs_in f [] z = inl refl
runs_in f (c ∷ s) z = go (f c) (runs_in f s z)
  where
    go : (b : Bool) → (lead f s ≡ length s) ⊎ (lead f (s ++ z) ≡ lead f s)
        → (pick b (suc (lead f s)) 0 ≡ suc (length s)) ⊎ (pick b (suc (lead f (s ++ z))) 0 ≡ pick b (suc (lead f s)) 0)
    go true (inl e) = inl (ap suc e)
    go true (inr e) = inr (ap suc e)
    go false h = inr refl

module _ (m x : List ℕ) (a : ℕ) (h : a ≤ length m) where
  pub seen : (t : List (ℕ → Bool)) → Sights a (a + length t) (length m) (look t (drop a m)) (look t (drop a (m ++ x)))
  seen t =
      rw (drop-append-le a m x h)
      (sights_on (λ g. omega (arith, length-drop a m)) (λ g. omega (arith, length-drop a m)) (λ g. omega (arith, length-drop a m)) (sights t (drop a m) x))

  pub runs : (f : ℕ → Bool) → (a + lead f (drop a m) ≡ length m) ⊎ (lead f (drop a (m ++ x)) ≡ lead f (drop a m))
  runs f = rw (drop-append-le a m x h) (go (runs_in f (drop a m) x))
    where
      go : (lead f (drop a m) ≡ length (drop a m)) ⊎ (lead f (drop a m ++ x) ≡ lead f (drop a m))
          → (a + lead f (drop a m) ≡ length m) ⊎ (lead f (drop a m ++ x) ≡ lead f (drop a m))
      go (inl e) = inl (omega (arith, length-drop a m))
      go (inr e) = inr e

  -- bytes that lie within the shorter
  pub lies_in : (n : ℕ) → a + n ≤ length m → take n (drop a (m ++ x)) ≡ take n (drop a m)
  lies_in n g = rw (drop-append-le a m x h) (take-append-le n (drop a m) x (omega (arith, length-drop a m)))

-- where nothing is left, tests are cut
pub none_left : (t : List (ℕ → Bool)) → 0 < length t → (m : List ℕ) → look t (drop (length m) m) ≡ Cut
none_left [] h m = never (omega arith)
none_left (f ∷ t) h m = rw (drop_of_length-le m {i = length m} (omega arith))
