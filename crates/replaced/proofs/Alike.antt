-- Two texts that part at a `<`, if at all: what is read of them before that place is the same.
use mathlib.Core.Path.{◌≡◌, refl, ap, sym, ◌∙◌}
use mathlib.Core.Bool.{Bool, true, false, not}
use mathlib.Core.Logic.{◌⊎◌, inl, inr}
use mathlib.Core.List.{List, [], ◌∷◌, ◌++◌}
use Prim.Native.Nat.{ℕ, zero, suc, ◌+◌, ◌≤◌}
use native.Mathlib.Omega.{arith}
use borrow.Author.Tests.{not-true}
use lib.ListN.{length, take, drop}
use lib.Seq.{take-take}
use Rattle.text.specs.Truth.{both, pick, lead}
use Rattle.text.proofs.Truths.{both_true}
use Rattle.tags.specs.declared.Look.TheVariants.{Whole, Other}
use Rattle.tags.specs.Tags.{look}
use Rattle.reading.proofs.Flat.{never}

-- a part that lies within the first w bytes
part_of : (i k w : ℕ) (s : List ℕ) → i + k ≤ w → take k (drop i (take w s)) ≡ take k (drop i s)
part_of zero k w s h = take-take k w s (omega arith)
part_of (suc i) k zero s h = absurd (omega arith)
part_of (suc i) k (suc w) [] h = refl
part_of (suc i) k (suc w) (c ∷ s) h = part_of i k w s (omega arith)

pub cut_same : (i k w : ℕ) (s s' : List ℕ) → i + k ≤ w → take w s ≡ take w s' → take k (drop i s) ≡ take k (drop i s')
cut_same i k w s s' h e = sym (part_of i k w s h) ∙ ap (λ (l : List ℕ). take k (drop i l)) e ∙ part_of i k w s' h

-- tests see no more bytes than they are
pub look_taken : (t : List (ℕ → Bool)) (s : List ℕ) → look t (take (length t) s) ≡ look t s
look_taken [] s = refl
look_taken (f ∷ t) [] = refl
look_taken (f ∷ t) (c ∷ s) = rw (look_taken t s)

pub look_cut_same : (t : List (ℕ → Bool)) (s s' : List ℕ) → take (length t) s ≡ take (length t) s' → look t s ≡ look t s'
look_cut_same t s s' e = sym (look_taken t s) ∙ ap (look t) e ∙ look_taken t s'

-- what lies whole in a text lies whole before anything
pub whole_before : (t : List (ℕ → Bool)) (s z : List ℕ) → look t s ≡ Whole → look t (s ++ z) ≡ Whole
whole_before [] s z e = refl
whole_before (f ∷ t) [] z e = never (cc)
whole_before (f ∷ t) (c ∷ s) z e = go (f c) e (whole_before t s z)
  where
    go : (b : Bool) → pick b (look t s) Other ≡ Whole → (look t s ≡ Whole → look t (s ++ z) ≡ Whole) → pick b (look t (s ++ z)) Other ≡ Whole
    go true h k = k h
    go false h k = never (cc)

-- tests that `<` does not pass
abbrev pub shut : List (ℕ → Bool) → Bool
shut [] = true
shut (f ∷ t) = both (not (f 60)) (shut t)

-- two texts: the same (true); or (false) `<` and then a or a', perhaps behind bytes that both have
module _ (a a' : List ℕ) where
  pub data Alike : Bool → List ℕ → List ℕ → Type 0 where
    level : {s : List ℕ} → Alike true s s
    parting : Alike false (60 ∷ a) (60 ∷ a')
    ahead : (c : ℕ) {s s' : List ℕ} → Alike false s s' → Alike false (c ∷ s) (c ∷ s')

  -- any bytes before the place where they part
  pub alike_behind : (x : List ℕ) → Alike false (x ++ (60 ∷ a)) (x ++ (60 ∷ a'))
  alike_behind [] = parting
  alike_behind (c ∷ x) = ahead c (alike_behind x)

  -- k bytes on: the same bytes until then, and two such texts from then on
  abbrev pub Onward : Bool → ℕ → List ℕ → List ℕ → Type 0
  Onward b k s s' = (take k s ≡ take k s') × Alike b (drop k s) (drop k s')

  onward : (b : Bool) (c k : ℕ) (s s' : List ℕ) → Onward b k s s' → Onward b (suc k) (c ∷ s) (c ∷ s')
  onward b c k s s' h = (ap (λ (l : List ℕ). c ∷ l) h.0, h.1)

  -- ---- bytes of a kind that `<` is not of
  pub lead_alike : (f : ℕ → Bool) → f 60 ≡ false → {b : Bool} {s s' : List ℕ} → Alike b s s' → (lead f s ≡ lead f s') × Onward b (lead f s) s s'
  lead_alike f other level = (refl, (refl, level))
  lead_alike f other parting = rw other (refl, (refl, parting))
  lead_alike f other (ahead c {s = s} {s' = s'} h) = go (f c) (lead_alike f other h)
    where
      go : (b : Bool) → (lead f s ≡ lead f s') × Onward false (lead f s) s s'
          → (pick b (suc (lead f s)) 0 ≡ pick b (suc (lead f s')) 0) × Onward false (pick b (suc (lead f s)) 0) (c ∷ s) (c ∷ s')
      go true e = (ap suc e.0, onward false c (lead f s) s s' e.1)
      go false e = (refl, (refl, ahead c h))

  -- ---- tests
  abbrev Looks : Bool → List (ℕ → Bool) → List ℕ → List ℕ → Type 0
  Looks b t s s' = (look t s ≡ look t s') × (look t s ≡ Whole → Onward b (length t) s s')

  looks-next : (b : Bool) (f : ℕ → Bool) (t : List (ℕ → Bool)) (c : ℕ) (s s' : List ℕ) → Looks b t s s' → Looks b (f ∷ t) (c ∷ s) (c ∷ s')
  looks-next b f t c s s' h = go (f c)
    where
      go : (x : Bool) → (pick x (look t s) Other ≡ pick x (look t s') Other) × (pick x (look t s) Other ≡ Whole → Onward b (suc (length t)) (c ∷ s) (c ∷ s'))
      go true = (h.0, λ e. onward b c (length t) s s' (h.1 e))
      go false = (refl, λ e. never (cc))

  looks-shut : (t : List (ℕ → Bool)) → shut t ≡ true → {b : Bool} {s s' : List ℕ} → Alike b s s' → Looks b t s s'
  looks-shut [] e h = (refl, λ w. (refl, h))
  looks-shut (f ∷ t) e level = (refl, λ w. (refl, level))
  looks-shut (f ∷ t) e parting = rw (not-true (f 60) (both_true (not (f 60)) (shut t) e).0) (refl, λ w. never (cc))
  looks-shut (f ∷ t) e (ahead c {s = s} {s' = s'} h) = looks-next false f t c s s' (looks-shut t (both_true (not (f 60)) (shut t) e).1 h)

  -- they part just here
  pub record Parts (b : Bool) (s s' : List ℕ) : Type 0 where
    pub ahead : b ≡ false
    pub one : s ≡ 60 ∷ a
    pub other : s' ≡ 60 ∷ a'

  -- a tag, of which `<` passes no test but the first: it lies alike in both, and behind it they are still alike; or it lies where they part
  pub tag_alike : (tag : List (ℕ → Bool)) → shut (drop 1 tag) ≡ true → look tag (60 ∷ a) ≡ look tag (60 ∷ a') → {b : Bool} {s s' : List ℕ} → Alike b s s'
      → (look tag s ≡ look tag s') × (look tag s ≡ Whole → Onward b (length tag) s s' ⊎ Parts b s s')
  tag_alike [] e known h = (refl, λ w. inl (refl, h))
  tag_alike (f ∷ t) e known level = (refl, λ w. inl (refl, level))
  tag_alike (f ∷ t) e known parting = (known, λ w. inr (record { ahead = refl; one = refl; other = refl }))
  tag_alike (f ∷ t) e known (ahead c {s = s} {s' = s'} h) =
      let l = looks-next false f t c s s' (looks-shut t e h) in
      (l.0, λ w. inl (l.1 w))
