-- Digits by weights: their sum leaves by 97 what their number leaves.
use mathlib.Core.Path.{◌≡◌, refl, sym, ap, ◌∙◌}
use mathlib.Core.Bool.{true, false}
use mathlib.Core.List.{List, [], ◌∷◌}
use Prim.Native.Nat.{ℕ, zero, suc, ◌+◌, ◌-◌, ◌*◌, ◌%◌, ◌≤◌, ◌<◌}
use native.Mathlib.Omega.{arith}
use native.Mathlib.Nat.{mul-le-mul}
use native.Mathlib.Numerals.{add-one}
use borrow.Author.Tests.{eqb-true, leb-true}
use lib.Dec.{eqb}
use lib.ListN.{length, get_or}
use Rattle.text.specs.Truth.{part, every}
use Rattle.text.specs.Quoted.{followed_by}
use Rattle.text.specs.Classes.{digit, capital, capital_or_digit}
use Rattle.text.proofs.Truths.{both_true, between_of, between_over}
use Rattle.text.proofs.Digits.{digit_range, capital_range, digit_bounds, capital_bounds}
use Rattle.check97.proofs.Spelled.{onto_digit, onto_capital}
use Rattle.swift_values.specs.Blocks.{All, light, balance, number, Headed}
use Rattle.swift_values.proofs.Blocks.{back, all_part, all_join, four_number}
use Rattle.swift_values.proofs.Parts.{listed, listed_from, all_at, digit_cap, capital_cap}
use Rattle.swift_values.proofs.Rests.{digits_number}
use Rattle.swift_values.proofs.Ibans.{same_rest, behind_head}
use Rattle.swift_values.proofs.Identifiers.{head_all}

-- ---- the loop over a row
pub light_at : (w : List ℕ) (j : ℕ) → every light w ≡ true → get_or w j 0 ≤ 96
light_at [] zero e = omega arith
light_at [] (suc j) e = omega arith
light_at (k ∷ w) zero e = leb-true k 96 (both_true (light k) (every light w) e).0
light_at (k ∷ w) (suc j) e = light_at w j (both_true (light k) (every light w) e).1

module _ (s : List ℕ) (p : ℕ) (w : List ℕ) where
  -- a digit times its weight
  pub one_small : (n i : ℕ) → All digit s p n → i < n → every light w ≡ true → get_or s (p + i) 0 * get_or w i 0 ≤ 5472
  one_small n i a h e = mul-le-mul {n₁ = get_or s (p + i) 0} {m₁ = get_or w i 0} {n₂ = 57} {m₂ = 96} (digit_bounds (get_or s (p + i) 0) (a.each i h)).1 (light_at w i e)

  pub balance_on : (i t x y : ℕ) → t ≡ balance s p w i → x ≡ get_or s (p + i) 0 → y ≡ get_or w i 0 → t + x * y ≡ balance s p w (i + 1)
  balance_on i t x y e f g = rw (e, f, g, add-one i) refl

-- ---- the same, from a place before it
abbrev from : List ℕ → ℕ → ℕ → List ℕ → ℕ → ℕ
from s p o w zero = 0
from s p o w (suc n) = from s p o w n + get_or s (p + (o + n)) 0 * get_or w n 0

from_is : (s : List ℕ) (p o : ℕ) (w : List ℕ) (n : ℕ) → balance s (p + o) w n ≡ from s p o w n
from_is s p o w zero = refl
from_is s p o w (suc n) = let z : p + o + n ≡ p + (o + n) = omega arith in rw (from_is s p o w n, z) refl

-- ---- the first four characters
module _ (m : List ℕ) (p : ℕ) (fits : p + 4 ≤ length m) (h : Headed m p) where
  pub head_number : number 0 (part p 4 m) ≡ ((((0 * 100 + (get_or m p 0 - 55)) * 100 + (get_or m (p + 1) 0 - 55)) * 10 + (get_or m (p + 2) 0 - 48)) * 10 + (get_or m (p + 3) 0 - 48))
  head_number =
      sym (four_number m p fits _ _ _ _ (sym (onto_capital 0 (get_or m p 0) (no (get_or m p 0) h.first) h.first)) (sym (onto_capital _ (get_or m (p + 1) 0) (no
      (get_or m (p + 1) 0) h.second) h.second))
      (sym (onto_digit _ (get_or m (p + 2) 0) h.third)) (sym (onto_digit _ (get_or m (p + 3) 0) h.fourth)))
    where
      no : (c : ℕ) → capital c ≡ true → digit c ≡ false
      no c e = digit_range c ∙ between_over 48 57 c (omega (arith, capital_bounds c e))

-- ---- a German IBAN: twenty digits from the third character on
german_rest : (b2 b3 b4 b5 b6 b7 b8 b9 b10 b11 b12 b13 b14 b15 b16 b17 b18 b19 b20 b21 d2 d3 d4 d5 d6 d7 d8 d9 d10 d11 d12 d13 d14 d15 d16 d17 d18 d19 d20 d21 a b c : ℕ)
    → a ≡ 0 + b2 * 10 + b3 * 1 + b4 * 56 + b5 * 25 + b6 * 51 + b7 * 73 + b8 * 17 + b9 * 89 → b ≡ 0 + b10 * 38 + b11 * 62 + b12 * 45 + b13 * 53 + b14 * 15 + b15 * 50 + b16 * 5 + b17 * 49
    → c ≡ 0 + b14 * 0 + b15 * 0 + b16 * 0 + b17 * 0 + b18 * 34 + b19 * 81 + b20 * 76 + b21 * 27
    → b2 ≡ d2 + 48 → b3 ≡ d3 + 48 → b4 ≡ d4 + 48 → b5 ≡ d5 + 48 → b6 ≡ d6 + 48 → b7 ≡ d7 + 48 → b8 ≡ d8 + 48 → b9 ≡ d9 + 48 → b10 ≡ d10 + 48 → b11 ≡ d11 + 48 → b12 ≡ d12 + 48 → b13 ≡ d13 + 48
    → b14 ≡ d14 + 48 → b15 ≡ d15 + 48 → b16 ≡ d16 + 48 → b17 ≡ d17 + 48 → b18 ≡ d18 + 48 → b19 ≡ d19 + 48 → b20 ≡ d20 + 48 → b21 ≡ d21 + 48
    → ((((((((((((((((((0 * 10 + d4) * 10 + d5) * 10 + d6) * 10 + d7) * 10 + d8) * 10 + d9) * 10 + d10) * 10 + d11) * 10 + d12) * 10 + d13) * 10 + d14) * 10 + d15) * 10 + d16) * 10
    + d17) * 10 + d18) * 10 + d19) * 10 + d20) * 10 + d21) * 1000000 + ((1314 * 10 + d2) * 10 + d3)
    ≡ a + b + c + 54 + 97 * (d4 * 1030927835051546391752 + d5 * 103092783505154639175 + d6 * 10309278350515463917 + d7 * 1030927835051546391 + d8 * 103092783505154639 + d9 * 10309278350515463
    + d10 * 1030927835051546 + d11 * 103092783505154 + d12 * 10309278350515 + d13 * 1030927835051 + d14 * 103092783505 + d15 * 10309278350 + d16 * 1030927835 + d17 * 103092783
    + d18 * 10309278 + d19 * 1030927 + d20 * 103092 + d21 * 10309 + 930)
german_rest b2 b3 b4 b5 b6 b7 b8 b9 b10 b11 b12 b13 b14 b15 b16 b17 b18 b19 b20 b21 d2 d3 d4 d5 d6 d7 d8 d9 d10 d11 d12 d13 d14 d15 d16 d17 d18 d19 d20 d21 a b c ea eb ec e2 e3 e4 e5 e6 e7 e8 e9 e10 e11 e12 e13 e14 e15 e16 e17 e18 e19 e20 e21 = omega arith

module _ (m : List ℕ) (p : ℕ) (fits : p + 22 ≤ length m) (ds : All digit m (p + 2) 20) (e0 : get_or m p 0 ≡ 68) (e1 : get_or m (p + 1) 0 ≡ 69) where
  dig : (j : ℕ) → 2 ≤ j → j < 22 → get_or m (p + j) 0 ≡ (get_or m (p + j) 0 - 48) + 48
  dig j l h = back (get_or m (p + j) 0) (digit_bounds (get_or m (p + j) 0) (all_at digit m (p + 2) 20 (j - 2) (p + j) ds (omega arith) (omega arith))).0

  pub german_head : Headed m p
  german_head =
      record {
        first = ap capital e0 ∙ capital_range 68 ∙ between_of 65 90 68 (omega arith) (omega arith);
        second = ap capital e1 ∙ capital_range 69 ∙ between_of 65 90 69 (omega arith) (omega arith);
        third = all_at digit m (p + 2) 20 0 (p + 2) ds (omega arith) (omega arith);
        fourth = all_at digit m (p + 2) 20 1 (p + 3) ds (omega arith) (omega arith);
      }

  pub german_caps : All capital_or_digit m p 22
  german_caps =
      all_join capital_or_digit m p 4 (p + 2) 20 (head_all m p german_head capital_or_digit capital_cap digit_cap) (record {
        each = λ j h. digit_cap
            (get_or m (p + 2 + j) 0) (ds.each j h);
      }) (omega arith) (omega arith) 22 (omega arith)

  head_is : number 0 (part p 4 m) ≡ ((1314 * 10 + (get_or m (p + 2) 0 - 48)) * 10 + (get_or m (p + 3) 0 - 48))
  head_is = rw (e0, e1) at (head_number m p (omega arith) german_head)

  body_is : number 0 (part (p + 4) 18 m) ≡ followed_by 0 (listed m p 4 18)
  body_is = digits_number m (p + 4) 0 18 (omega arith) (all_part digit m (p + 2) 20 (p + 4) 18 ds (omega arith) (omega arith)) ∙ ap (followed_by 0) (listed_from m p 18 4 (omega arith))

  pub german_leaves : (a b c : ℕ) → a ≡ balance m (p + 2) (10 ∷ 1 ∷ 56 ∷ 25 ∷ 51 ∷ 73 ∷ 17 ∷ 89 ∷ []) 8 → b ≡ balance m (p + 10) (38 ∷ 62 ∷ 45 ∷ 53 ∷ 15 ∷ 50 ∷ 5 ∷ 49 ∷ []) 8
      → c ≡ balance m (p + 14) (0 ∷ 0 ∷ 0 ∷ 0 ∷ 34 ∷ 81 ∷ 76 ∷ 27 ∷ []) 8
      → eqb ((a + b + c + 54) % 97) 1 ≡ true → number (number 0 (part (p + 4) 18 m)) (part p 4 m) % 97 ≡ 1
  german_leaves a b c ea eb ec t =
      ap (λ (k : ℕ). k % 97) (behind_head m p _ (omega arith) german_head (sym head_is) (number 0 (part (p + 4) 18 m)) ∙ ap (λ (k : ℕ). k * 1000000 + ((1314 * 10 +
      (get_or m (p + 2) 0 - 48)) * 10 + (get_or m (p + 3) 0 - 48))) body_is)
      ∙ same_rest _ _ (a + b + c + 54)
      (german_rest (get_or m (p + 2) 0) (get_or m (p + 3) 0) (get_or m (p + 4) 0) (get_or m (p + 5) 0) (get_or m (p + 6) 0) (get_or m (p + 7) 0) (get_or m (p + 8) 0) (get_or m (p + 9) 0)
      (get_or m (p + 10) 0) (get_or m (p + 11) 0) (get_or m (p + 12) 0) (get_or m (p + 13) 0) (get_or m (p + 14) 0) (get_or m (p + 15) 0) (get_or m (p + 16) 0) (get_or m (p + 17) 0) (get_or m (p + 18) 0)
      (get_or m (p + 19) 0) (get_or m (p + 20) 0) (get_or m (p + 21) 0)
      (get_or m (p + 2) 0 - 48) (get_or m (p + 3) 0 - 48) (get_or m (p + 4) 0 - 48) (get_or m (p + 5) 0 - 48) (get_or m (p + 6) 0 - 48) (get_or m (p + 7) 0 - 48) (get_or m (p + 8) 0 - 48)
      (get_or m (p + 9) 0 - 48) (get_or m (p + 10) 0 - 48) (get_or m (p + 11) 0 - 48) (get_or m (p + 12) 0 - 48) (get_or m (p + 13) 0 - 48) (get_or m (p + 14) 0 - 48) (get_or m (p + 15) 0 - 48)
      (get_or m (p + 16) 0 - 48) (get_or m (p + 17) 0 - 48) (get_or m (p + 18) 0 - 48) (get_or m (p + 19) 0 - 48) (get_or m (p + 20) 0 - 48) (get_or m (p + 21) 0 - 48)
      a b c (ea ∙ from_is m p 2 (10 ∷ 1 ∷ 56 ∷ 25 ∷ 51 ∷ 73 ∷ 17 ∷ 89 ∷ []) 8) (eb ∙ from_is m p 10 (38 ∷ 62 ∷ 45 ∷ 53 ∷ 15 ∷ 50 ∷ 5 ∷ 49 ∷ []) 8)
      (ec ∙ from_is m p 14 (0 ∷ 0 ∷ 0 ∷ 0 ∷ 34 ∷ 81 ∷ 76 ∷ 27 ∷ []) 8)
      (dig 2 (omega arith) (omega arith)) (dig 3 (omega arith) (omega arith)) (dig 4 (omega arith) (omega arith)) (dig 5 (omega arith) (omega arith)) (dig 6 (omega arith) (omega arith))
      (dig 7 (omega arith) (omega arith)) (dig 8 (omega arith) (omega arith)) (dig 9 (omega arith) (omega arith)) (dig 10 (omega arith) (omega arith)) (dig 11 (omega arith) (omega arith))
      (dig 12 (omega arith) (omega arith)) (dig 13 (omega arith) (omega arith)) (dig 14 (omega arith) (omega arith)) (dig 15 (omega arith) (omega arith))
      (dig 16 (omega arith) (omega arith)) (dig 17 (omega arith) (omega arith)) (dig 18 (omega arith) (omega arith)) (dig 19 (omega arith) (omega arith))
      (dig 20 (omega arith) (omega arith)) (dig 21 (omega arith) (omega arith)))
      ∙ eqb-true ((a + b + c + 54) % 97) 1 t

-- ---- an identifier of 18: its head, and eleven digits from the eighth character on
usual_rest : (b0 b1 b2 b3 b7 b8 b9 b10 b11 b12 b13 b14 b15 b16 b17 c0 c1 d2 d3 d7 d8 d9 d10 d11 d12 d13 d14 d15 d16 d17 a b h : ℕ)
    → a ≡ 0 + b7 * 62 + b8 * 45 + b9 * 53 + b10 * 15 + b11 * 50 + b12 * 5 + b13 * 49 + b14 * 34 → b ≡ 0 + b10 * 0 + b11 * 0 + b12 * 0 + b13 * 0 + b14 * 0 + b15 * 81 + b16 * 76 + b17 * 27
    → h ≡ b0 * 9 + b1 * 3 + b2 * 10 + b3
    → b0 ≡ c0 + 55 → b1 ≡ c1 + 55 → b2 ≡ d2 + 48 → b3 ≡ d3 + 48
    → b7 ≡ d7 + 48 → b8 ≡ d8 + 48 → b9 ≡ d9 + 48 → b10 ≡ d10 + 48 → b11 ≡ d11 + 48 → b12 ≡ d12 + 48 → b13 ≡ d13 + 48 → b14 ≡ d14 + 48 → b15 ≡ d15 + 48 → b16 ≡ d16 + 48 → b17 ≡ d17 + 48
    → (((((((((((0 * 10 + d7) * 10 + d8) * 10 + d9) * 10 + d10) * 10 + d11) * 10 + d12) * 10 + d13) * 10 + d14) * 10 + d15) * 10 + d16) * 10
    + d17) * 1000000 + ((((0 * 100 + c0) * 100 + c1) * 10 + d2) * 10 + d3) + 97 * 259 ≡ a + b + h + 79 + 97 * (d7 * 103092783505154 + d8 * 10309278350515 + d9 * 1030927835051
    + d10 * 103092783505 + d11 * 10309278350 + d12 * 1030927835 + d13 * 103092783 + d14 * 10309278 + d15 * 1030927 + d16 * 103092 + d17 * 10309 + c0 * 103 + c1 * 1)
usual_rest b0 b1 b2 b3 b7 b8 b9 b10 b11 b12 b13 b14 b15 b16 b17 c0 c1 d2 d3 d7 d8 d9 d10 d11 d12 d13 d14 d15 d16 d17 a b h ea eb eh e0 e1 e2 e3 e7 e8 e9 e10 e11 e12 e13 e14 e15 e16 e17 = omega arith

above : (x u y v : ℕ) → x + 97 * u ≡ y + 97 * v → x % 97 ≡ y % 97
above x u y v e = omega arith

module _ (m : List ℕ) (p : ℕ) (fits : p + 18 ≤ length m) (ds : All digit m (p + 7) 11) (head : Headed m p) where
  eleven : (j : ℕ) → 7 ≤ j → j < 18 → get_or m (p + j) 0 ≡ (get_or m (p + j) 0 - 48) + 48
  eleven j l h = back (get_or m (p + j) 0) (digit_bounds (get_or m (p + j) 0) (all_at digit m (p + 7) 11 (j - 7) (p + j) ds (omega arith) (omega arith))).0

  letter : (c : ℕ) → capital c ≡ true → c ≡ (c - 55) + 55
  letter c e = omega (arith, capital_bounds c e)

  rest_is : number 0 (part (p + 7) 11 m) ≡ followed_by 0 (listed m p 7 11)
  rest_is = digits_number m (p + 7) 0 11 (omega arith) ds ∙ ap (followed_by 0) (listed_from m p 11 7 (omega arith))

  pub usual_leaves : (a b h : ℕ) → a ≡ balance m (p + 7) (62 ∷ 45 ∷ 53 ∷ 15 ∷ 50 ∷ 5 ∷ 49 ∷ 34 ∷ []) 8 → b ≡ balance m (p + 10) (0 ∷ 0 ∷ 0 ∷ 0 ∷ 0 ∷ 81 ∷ 76 ∷ 27 ∷ []) 8
      → h ≡ get_or m p 0 * 9 + get_or m (p + 1) 0 * 3 + get_or m (p + 2) 0 * 10 + get_or m (p + 3) 0
      → eqb ((a + b + h + 79) % 97) 1 ≡ true → number (number 0 (part (p + 7) 11 m)) (part p 4 m) % 97 ≡ 1
  usual_leaves a b h ea eb eh t =
      ap (λ (k : ℕ). k % 97) (behind_head m p _ (omega arith) head (sym (head_number m p (omega arith) head)) (number 0 (part (p + 7) 11 m))
      ∙ ap (λ (k : ℕ). k * 1000000 + ((((0 * 100 + (get_or m p 0 - 55)) * 100 + (get_or m (p + 1) 0 - 55)) * 10 + (get_or m (p + 2) 0 - 48)) * 10 + (get_or m (p + 3) 0 - 48))) rest_is)
      ∙ above _ 259 (a + b + h + 79) _
      (usual_rest (get_or m p 0) (get_or m (p + 1) 0) (get_or m (p + 2) 0) (get_or m (p + 3) 0)
      (get_or m (p + 7) 0) (get_or m (p + 8) 0) (get_or m (p + 9) 0) (get_or m (p + 10) 0) (get_or m (p + 11) 0) (get_or m (p + 12) 0) (get_or m (p + 13) 0) (get_or m (p + 14) 0) (get_or m (p + 15) 0)
      (get_or m (p + 16) 0) (get_or m (p + 17) 0)
      (get_or m p 0 - 55) (get_or m (p + 1) 0 - 55) (get_or m (p + 2) 0 - 48) (get_or m (p + 3) 0 - 48)
      (get_or m (p + 7) 0 - 48) (get_or m (p + 8) 0 - 48) (get_or m (p + 9) 0 - 48) (get_or m (p + 10) 0 - 48) (get_or m (p + 11) 0 - 48) (get_or m (p + 12) 0 - 48) (get_or m (p + 13) 0 - 48)
      (get_or m (p + 14) 0 - 48) (get_or m (p + 15) 0 - 48) (get_or m (p + 16) 0 - 48) (get_or m (p + 17) 0 - 48)
      a b h (ea ∙ from_is m p 7 (62 ∷ 45 ∷ 53 ∷ 15 ∷ 50 ∷ 5 ∷ 49 ∷ 34 ∷ []) 8) (eb ∙ from_is m p 10 (0 ∷ 0 ∷ 0 ∷ 0 ∷ 0 ∷ 81 ∷ 76 ∷ 27 ∷ []) 8) eh
      (letter (get_or m p 0) head.first) (letter (get_or m (p + 1) 0) head.second) (back (get_or m (p + 2) 0) (digit_bounds (get_or m (p + 2) 0) head.third).0) (back
      (get_or m (p + 3) 0) (digit_bounds (get_or m (p + 3) 0) head.fourth).0)
      (eleven 7 (omega arith) (omega arith)) (eleven 8 (omega arith) (omega arith)) (eleven 9 (omega arith) (omega arith)) (eleven 10 (omega arith) (omega arith))
      (eleven 11 (omega arith) (omega arith)) (eleven 12 (omega arith) (omega arith)) (eleven 13 (omega arith) (omega arith)) (eleven 14 (omega arith) (omega arith))
      (eleven 15 (omega arith) (omega arith)) (eleven 16 (omega arith) (omega arith)) (eleven 17 (omega arith) (omega arith)))
      ∙ eqb-true ((a + b + h + 79) % 97) 1 t
