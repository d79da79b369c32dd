-- Two results of one meaning are one: so two answers that one contract allows are equal.
use mathlib.Core.Path.{◌≡◌, refl, ap, sym, ◌∙◌}
use Prim.Native.Nat.{ℕ}
use Rattle.std.specs.Prelude.{Result, Ok, Err, Option, None, Some}
use Rattle.answers.specs.declared.Refusal.{Refusal}
use Rattle.answers.specs.Refusals.{refusal_number}
use Rattle.answers.specs.Given.{Given, yes, worth, refused, given_by, told_of, given_yes, given_worth, given_any, number_of, value_of}
use Rattle.answers.proofs.Refusals.{same_refusal}

-- of what passes, f tells which it is, and never a refusal
module _ {A : Type 0} (f : A → Given) (tells : (x y : A) → f x ≡ f y → x ≡ y) (passes : (x : A) (n : ℕ) → f x ≡ refused n → ⊥) where
  one_result : (a b : Result A Refusal) → given_by f a ≡ given_by f b → a ≡ b
  one_result (Ok x) (Ok y) e = ap (λ (z : A). Ok z) (tells x y e)
  one_result (Ok x) (Err r) e = absurd (passes x (refusal_number r) e)
  one_result (Err r) (Ok y) e = absurd (passes y (refusal_number r) (sym e))
  one_result (Err r) (Err q) e = ap (λ (z : Refusal). Err z) (same_refusal r q (ap number_of e))

told_one : (x y : Option ℕ) → told_of x ≡ told_of y → x ≡ y
told_one None None e = refl
told_one None (Some n) e = cc
told_one (Some n) None e = cc
told_one (Some m) (Some n) e = ap (λ (z : ℕ). Some z) (ap value_of e)

told_passes : (x : Option ℕ) (n : ℕ) → told_of x ≡ refused n → ⊥
told_passes None n e = cc
told_passes (Some m) n e = cc

pub one_answer : (g : Given)
    → ((a b : Result Unit Refusal) → given_yes a ≡ g → given_yes b ≡ g → a ≡ b)
    × ((a b : Result ℕ Refusal) → given_worth a ≡ g → given_worth b ≡ g → a ≡ b)
    × ((a b : Result (Option ℕ) Refusal) → given_any a ≡ g → given_any b ≡ g → a ≡ b)
one_answer g = (
  (λ a b e h. one_result (λ _. yes) (λ x y p. refl) (λ x n p. cc) a b (e ∙ sym h)),
  (λ a b e h. one_result worth (λ x y p. ap value_of p) (λ x n p. cc) a b (e ∙ sym h)),
  (λ a b e h. one_result told_of told_one told_passes a b (e ∙ sym h)),
)
