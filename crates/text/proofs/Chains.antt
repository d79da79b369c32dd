-- The library's tests of a whole slice are the ones that the specs state: a chain of iterators, and `==`, answer with them.
use mathlib.Core.Path.{◌≡◌, refl, sym, ◌∙◌}
use mathlib.Core.Bool.{Bool, true, false, cond, ◌&&◌}
use mathlib.Core.List.{List, [], ◌∷◌}
use Prim.Native.Nat.{ℕ, zero, suc, ◌+◌}
use native.Mathlib.Omega.{arith}
use lib.Dec.{eqb, leb, eqb-suc-suc, eqb-zero-suc, eqb-suc-zero}
use lib.ListN.{length}
use lib.Pointwise.{pointwise}
use Rattle.std.specs.Prelude.{Option, Some}
use Rattle.std.specs.Ordering.{nat_cmp, partial_le, partial_lt}
use Rattle.std.proofs.Common.{Ordering}
use Rattle.std.proofs.lemmas.Bool.Decides.{nat_tests}
use Rattle.std.specs.List.{list_all, list_any, prefix_len, zip}
use Rattle.text.specs.Truth.{both, pick, every, some, lead, paired, between}
use Rattle.text.proofs.Truths.{never}
use Rattle.text.specs.Quoted.{alike}

one_more : (b : Bool) (n : ℕ) → cond b (1 + n) 0 ≡ pick b (suc n) 0
one_more true n = omega arith
one_more false n = refl

module _ (f : ℕ → Bool) where
  pub all_every : (s : List ℕ) → list_all f s ≡ every f s
  all_every [] = refl
  all_every (c ∷ s) = rw (all_every s)

  pub any_some : (s : List ℕ) → list_any f s ≡ some f s
  any_some [] = refl
  any_some (c ∷ s) = rw (any_some s)

  pub lead_prefix : (s : List ℕ) → prefix_len f s ≡ lead f s
  lead_prefix [] = refl
  lead_prefix (c ∷ s) = rw (lead_prefix s) (one_more (f c) (lead f s))

and_both : (a b : Bool) → (a && b) ≡ both a b
and_both true b = refl
and_both false b = refl

pub eqb_swap : (a b : ℕ) → eqb a b ≡ eqb b a
eqb_swap zero zero = refl
eqb_swap zero (suc b) = eqb-zero-suc b ∙ sym (eqb-suc-zero b)
eqb_swap (suc a) zero = eqb-suc-zero a ∙ sym (eqb-zero-suc a)
eqb_swap (suc a) (suc b) = eqb-suc-suc a b ∙ eqb_swap a b ∙ sym (eqb-suc-suc b a)

pub alike_pointwise : (t s : List ℕ) → pointwise eqb t s ≡ alike t s
alike_pointwise [] [] = refl
alike_pointwise [] (c ∷ s) = refl
alike_pointwise (d ∷ t) [] = refl
alike_pointwise (d ∷ t) (c ∷ s) = rw (alike_pointwise t s, eqb_swap d c) (and_both (eqb c d) (alike t s))

-- ---- `(a..=b).contains(&n)`, of the range's start, its end, and whether it is used up
abbrev in_order : ℕ → ℕ → Option Ordering
in_order x y = Some (nat_cmp x y)

le_cmp : (x y : ℕ) → partial_le in_order x y ≡ leb x y
le_cmp x y = grind (arith, nat_tests)

pub range_between : (s e : ℕ) (x : Bool) {a b : ℕ} (n : ℕ) → s ≡ a → e ≡ b → x ≡ false
    → (partial_le in_order s n && cond x (partial_lt in_order n e) (partial_le in_order n e)) ≡ between a b n
range_between s e x {a} {b} n h k u = rw (h, k, u, le_cmp a n, le_cmp n b) (and_both (leb a n) (leb n b))

-- ---- `all` over the pairs of two slices of one length
module _ (f : ℕ → ℕ → Bool) where
  pub all_paired : (t s : List ℕ) → length t ≡ length s → list_all (λ p. f p.0 p.1) (zip t s) ≡ paired f t s
  all_paired [] [] e = refl
  all_paired [] (c ∷ s) e = never (omega arith)
  all_paired (d ∷ t) [] e = never (omega arith)
  all_paired (d ∷ t) (c ∷ s) e = rw (all_paired t s (omega arith)) (and_both (f d c) (paired f t s))
