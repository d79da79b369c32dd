-- What the code finds at the beginning of a text: a tag, and how what stands behind it is written.
use mathlib.Core.Path.{◌≡◌, refl, sym, ap, ◌∙◌}
use mathlib.Core.Bool.{Bool, true, false}
use mathlib.Core.Logic.{inl, inr}
use mathlib.Core.List.{List, [], ◌∷◌}
use Prim.Native.Nat.{min, ℕ, zero, suc, ◌+◌, ◌≤◌}
use native.Mathlib.Omega.{arith}
use borrow.Author.Tests.{ltb-true, ltb-false}
use lib.Dec.{eqb, ltb}
use Rattle.std.proofs.Common.{cond, Option, Some, None}
use Rattle.std.specs.List.{position_or_len}
use Rattle.text.proofs.Chains.{lead_prefix}
use lib.ListN.{length, take, drop, length-take, drop_of_length-le}
use lib.Seq.{length-take-le}
use Rattle.text.specs.Truth.{lead}
use Rattle.text.proofs.Truths.{never, lt_or_ge}
use Rattle.tags.specs.Values.{in_value}
use Rattle.plain.specs.declared.Spelling.TheVariants.{Nothing}
use Rattle.plain.specs.Engine.{in_tag, tag_of, behind_tag, closes, spelling_by, declared_length, body_of}

-- ---- how far a tag goes, as `position` tells it
module _ (s : List ℕ) (r : Option ℕ) (e : r ≡ cond (ltb (position_or_len (λ c. eqb c 62) s) (length s)) (Some (position_or_len (λ c. eqb c 62) s)) None) where
  place : position_or_len (λ c. eqb c 62) s ≡ lead in_tag s
  place = lead_prefix in_tag s

  pub tag_found : (i : ℕ) → r ≡ Some i → i + 1 ≡ length (tag_of s)
  tag_found i f = go (ltb (position_or_len (λ c. eqb c 62) s) (length s)) refl (sym e ∙ f)
    where
      go : (b : Bool) → ltb (position_or_len (λ c. eqb c 62) s) (length s) ≡ b → cond b (Some (position_or_len (λ c. eqb c 62) s)) None ≡ Some i → i + 1 ≡ length (tag_of s)
      go true t h =
          let z : position_or_len (λ c. eqb c 62) s ≡ i = cc in
          omega (arith, place, z, ltb-true _ _ t, length-take-le (suc (lead in_tag s)) s)
      go false t h = never (cc)

  pub tag_unclosed : r ≡ None → length s ≡ length (tag_of s)
  tag_unclosed f = go (ltb (position_or_len (λ c. eqb c 62) s) (length s)) refl (sym e ∙ f)
    where
      go : (b : Bool) → ltb (position_or_len (λ c. eqb c 62) s) (length s) ≡ b → cond b (Some (position_or_len (λ c. eqb c 62) s)) None ≡ None → length s ≡ length (tag_of s)
      go true t h = never (cc)
      go false t h = omega (arith, place, ltb-false _ _ t, length-take (suc (lead in_tag s)) s)

-- ---- how what stands behind a tag is written
module _ (t r : List ℕ) where
  pub spelling_closed : closes t ≡ true → Nothing ≡ spelling_by t r
  unfolding spelling_by
  spelling_closed e = rw e

  module _ (o : closes t ≡ false) where
    pub spelling_open : closes r ≡ false → Nothing ≡ spelling_by t r
    unfolding spelling_by
    spelling_open e = rw (o, e)

-- ---- a piece: a tag of t bytes, and what is behind it
take_short : (n : ℕ) (s : List ℕ) → take (length (take n s)) s ≡ take n s
take_short zero s = refl
take_short (suc n) [] = refl
take_short (suc n) (c ∷ s) = ap (λ (l : List ℕ). c ∷ l) (take_short n s)

drop_short : (n : ℕ) (s : List ℕ) → drop (length (take n s)) s ≡ drop n s
drop_short zero s = refl
drop_short (suc n) [] = refl
drop_short (suc n) (c ∷ s) = drop_short n s

module _ (s : List ℕ) (t : ℕ) (is-t : t ≡ length (tag_of s)) where
  pub tag_fits : t ≤ length s
  tag_fits = omega (arith, is-t, length-take (suc (lead in_tag s)) s)

  pub tag_text : take t s ≡ tag_of s
  tag_text = rw is-t (take_short (suc (lead in_tag s)) s)

  pub tag_behind : drop t s ≡ behind_tag s
  tag_behind = rw is-t (drop_short (suc (lead in_tag s)) s)

-- ---- from the first tag on
pub body_is : (m x : List ℕ) (n : ℕ) → x ≡ drop (min (declared_length m) (length m)) m → n ≡ lead in_value x → drop n x ≡ body_of m
unfolding body_of
body_is m x n e f = rw (f, e, drop_min (declared_length m) m)
  where
    drop_min : (k : ℕ) (m : List ℕ) → drop (min k (length m)) m ≡ drop k m
    drop_min k m = elim (lt_or_ge (length m) k) [
      | inl h ↦ rw (drop_of_length-le m {i = k} (omega arith)) (drop_of_length-le m (omega arith))
      | inr h ↦ (let z : min k (length m) ≡ k = omega arith in rw z)
    ]
