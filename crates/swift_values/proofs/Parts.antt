-- A part of a message as the list of its bytes, and a value that it is.
use mathlib.Core.Path.{◌≡◌, refl, sym, ap, ◌∙◌}
use mathlib.Core.Bool.{Bool, true, false, not}
use mathlib.Core.List.{List, [], ◌∷◌, ◌++◌}
use Prim.Native.Nat.{ℕ, zero, suc, ◌+◌, ◌-◌, ◌≤◌, ◌<◌}
use native.Mathlib.Omega.{arith}
use native.Mathlib.Nat.{add-zero}
use borrow.Author.Tests.{eqb-true, eq-eqb}
use lib.Dec.{eqb}
use lib.ListN.{length, take, drop, get_or}
use lib.Seq.{take-add, drop-drop}
use Rattle.text.specs.Truth.{part, every, between, either}
use Rattle.text.specs.Quoted.{among}
use Rattle.text.specs.Classes.{digit, capital, capital_or_digit}
use Rattle.text.proofs.Scan.{next}
use Rattle.text.proofs.Digits.{digit_range, capital_range}
use Rattle.answers.specs.Given.{Given}
use Rattle.tags.specs.Values.{in_value}
use Rattle.profile.specs.declared.Kind.{Kind}
use Rattle.kinds.specs.Given.{kind_given}
use Rattle.swift_values.specs.Stands.{StandsFor}
use Rattle.swift_values.specs.Blocks.{All}
use Rattle.swift_values.proofs.Lanes.{unlike}
use Rattle.swift_values.proofs.Values.{every_of, value_ends}
use Rattle.swift_values.proofs.Blocks.{part_size, part_byte, cap_either}

-- two that are told apart
pub differs : (a b : ℕ) → not (eqb a b) ≡ true → a ≡ b → ⊥
differs a b h e = unlike (rw (eq-eqb a b e) at h)

-- the n bytes from p + i on
abbrev pub listed : List ℕ → ℕ → ℕ → ℕ → List ℕ
listed m p i zero = []
listed m p i (suc n) = get_or m (p + i) 0 ∷ listed m p (suc i) n

pub listed_from : (m : List ℕ) (p n i : ℕ) → p + i + n ≤ length m → take n (drop (p + i) m) ≡ listed m p i n
listed_from m p zero i h = refl
listed_from m p (suc n) i h =
    let z : p + i + 1 ≡ p + suc i = omega arith in
    ap (take (suc n)) (next m (p + i) (omega arith)) ∙ ap (λ (l : List ℕ). get_or m (p + i) 0 ∷ l) (ap (λ (k : ℕ). take n (drop k m)) z ∙ listed_from m p n (suc i) (omega arith))

pub part_listed : (m : List ℕ) (p n : ℕ) → p + n ≤ length m → part p n m ≡ listed m p 0 n
part_listed m p n h = ap (λ (k : ℕ). take n (drop k m)) (sym (add-zero p)) ∙ listed_from m p n 0 (omega arith)

pub part_two : (m : List ℕ) (p n k : ℕ) → part p (n + k) m ≡ part p n m ++ part (p + n) k m
part_two m p n k = take-add n k (drop p m) ∙ ap (λ (x : List ℕ). part p n m ++ take k x) (drop-drop n p m)

-- a test of a part's bytes
module _ (m : List ℕ) (p n : ℕ) (fits : p + n ≤ length m) where
  pub every_part : (f : ℕ → Bool) → All f m p n → every f (part p n m) ≡ true
  every_part f a = every_of f (part p n m) (λ i l. let w : i < n = omega (arith, part_size m p n fits) in ap f (part_byte m p n fits i w) ∙ a.each i w)

-- a byte of a block, at its place
pub all_at : (f : ℕ → Bool) (s : List ℕ) (q n j k : ℕ) → All f s q n → j < n → q + j ≡ k → f (get_or s k 0) ≡ true
all_at f s q n j k a h e = ap (λ (x : ℕ). f (get_or s x 0)) (sym e) ∙ a.each j h

-- ---- bytes that are no `<`
pub cap_in : (c : ℕ) → capital_or_digit c ≡ true → in_value c ≡ true
unfolding capital_or_digit among
cap_in c e = go (eqb c 60) refl
  where
    go : (b : Bool) → eqb c 60 ≡ b → not b ≡ true
    go false h = refl
    go true h = rw (eqb-true c 60 h) at e

pub digit_cap : (c : ℕ) → digit c ≡ true → capital_or_digit c ≡ true
digit_cap c e = cap_either c ∙ rw (sym (digit_range c) ∙ e) (go (between 65 90 c))
  where
    go : (b : Bool) → either b true ≡ true
    go true = refl
    go false = refl

pub capital_cap : (c : ℕ) → capital c ≡ true → capital_or_digit c ≡ true
capital_cap c e = cap_either c ∙ rw (sym (capital_range c) ∙ e) refl

pub digit_in : (c : ℕ) → digit c ≡ true → in_value c ≡ true
digit_in c e = cap_in c (digit_cap c e)

-- ---- a part that is a value, and `<` behind it
pub stands_part : (k : Kind) (g : Given) (m : List ℕ) (p n : ℕ) → 0 < p → p + n < length m → every in_value (part p n m) ≡ true → get_or m (p + n) 0 ≡ 60 → kind_given k (part p n m) ≡ g → StandsFor k g m p (p + n)
stands_part k g m p n some fits value behind e =
    let z : p + n - p ≡ n = omega arith in
    record {
      some = some;
      from = omega arith;
      behind = fits;
      upto = rw z (value_ends m p n fits value behind);
      given = rw z e;
    }
