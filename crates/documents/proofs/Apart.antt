-- Values of which no two are equal, and one that stands among some or does not.
use mathlib.Core.Path.{◌≡◌, refl, sym}
use mathlib.Core.Bool.{Bool, true, false, not}
use mathlib.Core.List.{List, [], ◌∷◌, ◌++◌, append-nil}
use Prim.Native.Nat.{ℕ}
use Rattle.text.specs.Truth.{either, pick}
use Rattle.text.specs.Quoted.{alike}
use Rattle.text.proofs.Truths.{never}
use Rattle.reading.specs.Rules.{stands_in, ◌so◌}
use Rattle.reading.proofs.Lists.{alike_itself, alike_same}
use Rattle.documents.specs.Document.{Each}
use Rattle.documents.specs.Holds.{Apart}
use Rattle.documents.proofs.Each.{each_both, each_first, each_rest}

-- a value is none of some
abbrev pub Beside : List ℕ → List (List ℕ) → Type 0
Beside v = Each (λ w. w ≡ v → ⊥)

pub stands_beside : (v : List ℕ) (l : List (List ℕ)) → stands_in v l ≡ false → Beside v l
stands_beside v [] h = tt
stands_beside v (w ∷ l) h = go (alike w v) refl h (stands_beside v l)
  where
    go : (b : Bool) → alike w v ≡ b → either b (stands_in v l) ≡ false → (stands_in v l ≡ false → Beside v l) → Beside v (w ∷ l)
    go true z e k = never (cc)
    go false z e k = (λ (s : w ≡ v). let y : alike v v ≡ false = rw s at z in let x = alike_itself v in never (cc), k e)

pub beside_stands : (v : List ℕ) (l : List (List ℕ)) → Beside v l → stands_in v l ≡ false
beside_stands v [] h = refl
beside_stands v (w ∷ l) h = go (alike w v) refl (beside_stands v l h.1)
  where
    go : (b : Bool) → alike w v ≡ b → stands_in v l ≡ false → either b (stands_in v l) ≡ false
    go true z k = absurd (h.0 (alike_same w v z))
    go false z k = k

pub stands_among_lem : (v : List ℕ) (a b : List (List ℕ)) → stands_in v (a ++ (v ∷ b)) ≡ true
stands_among_lem v [] b = rw (alike_itself v)
stands_among_lem v (w ∷ a) b = go (alike w v) (stands_among_lem v a b)
  where
    go : (c : Bool) → stands_in v (a ++ (v ∷ b)) ≡ true → either c (stands_in v (a ++ (v ∷ b))) ≡ true
    go true h = refl
    go false h = h

-- ---- the first of them
pub apart_first : (a b : List (List ℕ)) → Apart (a ++ b) → Apart a
apart_first [] b h = tt
apart_first (v ∷ a) b h = (each_first (λ w. w ≡ v → ⊥) a b h.0, apart_first a b h.1)

-- ---- one more
end_apart : (l : List (List ℕ)) (v : List ℕ) → Apart l → Beside v l → Apart (l ++ (v ∷ []))
end_apart [] v h g = (tt, tt)
end_apart (x ∷ l) v h g = (each_both (λ w. w ≡ x → ⊥) l (v ∷ []) h.0 (λ (e : v ≡ x). g.0 (sym e), tt), end_apart l v h.1 g.1)

apart_end : (l : List (List ℕ)) (v : List ℕ) → Apart (l ++ (v ∷ [])) → Beside v l
apart_end [] v h = tt
apart_end (x ∷ l) v h = (λ (e : x ≡ v). (each_rest (λ w. w ≡ x → ⊥) l (v ∷ []) h.0).0 (sym e), apart_end l v h.1)

-- ---- one value more or none, as the rule asks
pub apart_more : (b : Bool) (l : List (List ℕ)) (v : List ℕ) → Apart l → (b so not (stands_in v l)) ≡ true → Apart (l ++ pick b (v ∷ []) [])
apart_more false l v h e = rw (append-nil l) h
apart_more true l v h e = end_apart l v h (stands_beside v l (off (stands_in v l) e))
  where
    off : (b : Bool) → not b ≡ true → b ≡ false
    off true e = never (cc)
    off false e = refl

pub apart_last : (b : Bool) (l : List (List ℕ)) (v : List ℕ) → Apart (l ++ pick b (v ∷ []) []) → (b so not (stands_in v l)) ≡ true
apart_last false l v h = refl
apart_last true l v h = rw (beside_stands v l (apart_end l v h))
