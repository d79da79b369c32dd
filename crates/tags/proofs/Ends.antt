-- How many bytes stand before the first that a test finds: as `position` tells it, lane by lane in a block, and block by block.
use mathlib.Core.Path.{◌≡◌, refl, ap, ◌∙◌}
use mathlib.Core.Bool.{Bool, true, false, not, cond}
use mathlib.Core.List.{List, [], ◌∷◌}
use Prim.Native.Nat.{ℕ, zero, suc, ◌+◌, ◌≤◌, ◌<◌}
use native.Mathlib.Omega.{arith}
use native.Mathlib.Decide.{dec_lt}
use borrow.Author.Tests.{eq-eqb, eqb-true, eqb-false, not-false, ltb-false}
use lib.Dec.{eqb, ltb}
use lib.ListN.{length, get_or, take, drop}
use Rattle.std.specs.declared.option.Option.{Option}
use Rattle.std.specs.declared.option.Option.TheVariants.{Some, None}
use Rattle.std.specs.Option.{unwrap_or}
use Rattle.std.specs.List.{position_or_len}
use Rattle.std.proofs.lemmas.List.Sums.{prefix_len-le-length, prefix_len_passes, prefix_len_stops}
use Rattle.text.specs.Truth.{pick, lead}
use Rattle.text.proofs.Truths.{never}
use Rattle.text.proofs.Chains.{lead_prefix}
use Rattle.text.proofs.Scan.{lead_le, lead_same}
use Rattle.tags.specs.Values.{in_value}

pub not_not : (b : Bool) → not (not b) ≡ b
not_not true = refl
not_not false = refl

-- those that pass f stand before the first that passes g
module _ (f g : ℕ → Bool) (e : (c : ℕ) → not (g c) ≡ f c) (s : List ℕ) where
  place : position_or_len g s ≡ lead f s
  place = lead_prefix (λ x. not (g x)) s ∙ lead_same (λ x. not (g x)) f e s

  pub lead_of_position : (r : Option ℕ) → r ≡ cond (ltb (position_or_len g s) (length s)) (Some (position_or_len g s)) None → unwrap_or r (length s) ≡ lead f s
  lead_of_position r h = rw h (go (ltb (position_or_len g s) (length s)) refl)
    where
      go : (b : Bool) → ltb (position_or_len g s) (length s) ≡ b → unwrap_or (cond b (Some (position_or_len g s)) None) (length s) ≡ lead f s
      go true t = place
      go false t = omega (arith, ltb-false _ _ t, prefix_len-le-length (λ x. not (g x)) s, place)

-- ---- of the first n bytes: fewer than n pass, or all do
module _ (f : ℕ → Bool) where
  pub in_part : (n : ℕ) (s : List ℕ) → n ≤ length s → lead f (take n s) < n → lead f s ≡ lead f (take n s)
  in_part zero s g h = never (omega arith)
  in_part (suc n) [] g h = never (omega arith)
  in_part (suc n) (c ∷ s) g h = go (f c) (in_part n s (omega arith)) h
    where
      go : (b : Bool) → (lead f (take n s) < n → lead f s ≡ lead f (take n s)) → pick b (suc (lead f (take n s))) 0 < suc n → pick b (suc (lead f s)) 0 ≡ pick b (suc (lead f (take n s))) 0
      go true k h = ap suc (k (omega arith))
      go false k h = refl

  pub past_part : (n : ℕ) (s : List ℕ) → n ≤ lead f (take n s) → lead f s ≡ n + lead f (drop n s)
  past_part zero s h = omega arith
  past_part (suc n) [] h = never (omega arith)
  past_part (suc n) (c ∷ s) h = go (f c) (past_part n s) h
    where
      go : (b : Bool) → (n ≤ lead f (take n s) → lead f s ≡ n + lead f (drop n s)) → suc n ≤ pick b (suc (lead f (take n s))) 0 → pick b (suc (lead f s)) 0 ≡ suc n + lead f (drop n s)
      go true k h = omega (arith, k (omega arith))
      go false k h = never (omega arith)

-- ---- the lanes of a block
module _ (s : List ℕ) where
  -- of the lanes before i, r is the first `<`; or 48, where none is
  abbrev pub Told : ℕ → ℕ → Type 0
  Told i r = (lead in_value s < i → r ≡ lead in_value s) × (i ≤ lead in_value s → r ≡ 48)

  before : (i : ℕ) → i < lead in_value s → get_or s i 0 ≡ 60 → ⊥
  before i h e =
      let z : in_value (get_or s i 0) ≡ true = prefix_len_passes in_value s i 0 (omega (arith, h, lead_prefix in_value s)) in
      let y : in_value (get_or s i 0) ≡ false = rw (eq-eqb _ _ e) in
      never (cc)

  there : lead in_value s < length s → get_or s (lead in_value s) 0 ≡ 60
  there h =
      let z : in_value (get_or s (lead in_value s) 0) ≡ false = rw (lead_prefix in_value s) at (prefix_len_stops in_value s 0 (omega (arith, h, lead_prefix in_value s))) in
      eqb-true _ _ (not-false _ z)

  -- lane i, whose key is k: the lesser of r and k is q
  pub told_on : (i r k q : ℕ) → i < 48 → length s ≡ 48 → Told i r → (get_or s i 0 ≡ 60 → k ≡ i) → ((get_or s i 0 ≡ 60 → ⊥) → 48 ≤ k) → (k < r → q ≡ k) → (r ≤ k → q ≡ r) → Told (i + 1) q
  told_on i r k q h l t y n u v =
      elim (dec_lt i (lead in_value s)) [
        | yes g ↦ (λ x. never (omega arith), λ x. omega (arith, t.1 (omega arith), n (before i g), v (omega (arith, t.1 (omega arith), n (before i g)))))
        | no g ↦ (λ x. behind (eqb (lead in_value s) i) refl g, λ x. never (omega arith))
      ]
    where
      stays : lead in_value s < i → (b : Bool) → eqb (get_or s i 0) 60 ≡ b → q ≡ lead in_value s
      stays g true e = v (omega (arith, t.0 g, y (eqb-true _ _ e))) ∙ t.0 g
      stays g false e = v (omega (arith, t.0 g, n (eqb-false _ _ e))) ∙ t.0 g

      behind : (b : Bool) → eqb (lead in_value s) i ≡ b → (i < lead in_value s → ⊥) → q ≡ lead in_value s
      behind true e g =
          let z : lead in_value s ≡ i = eqb-true _ _ e in
          let w : get_or s i 0 ≡ 60 = rw z at (there (omega arith)) in
          omega (arith, y w, t.1 (omega arith), u (omega (arith, y w, t.1 (omega arith))))
      behind false e g =
          let z : lead in_value s < i = omega (arith, eqb-false _ _ e) in
          stays z (eqb (get_or s i 0) 60) refl

  pub told_all : (i r : ℕ) → i ≡ 48 → length s ≡ 48 → Told i r → r ≡ lead in_value s
  told_all i r h l t =
      elim (dec_lt (lead in_value s) 48) [
        | yes g ↦ t.0 (omega arith)
        | no g ↦ omega (arith, t.1 (omega arith), lead_le in_value s)
      ]

-- ---- a block b at the beginning of s, with r behind it
module _ (s b r : List ℕ) (k : ℕ) (e : b ≡ take 48 s) (f : r ≡ drop 48 s) (n : length r + 48 ≡ length s) (h : k ≡ lead in_value b) where
  pub block_of : k < 48 → k ≡ lead in_value s
  block_of g =
      let z : k ≡ lead in_value (take 48 s) = rw e at h in
      omega (arith, z, in_part in_value 48 s (omega arith) (omega arith))

  pub behind_block : 48 ≤ k → lead in_value s ≡ 48 + lead in_value r
  behind_block g =
      let z : k ≡ lead in_value (take 48 s) = rw e at h in
      rw f (past_part in_value 48 s (omega arith))
