-- Blocks of bytes of one class, and the number that their characters write.
use mathlib.Core.Path.{◌≡◌, refl, sym, ap, ◌∙◌}
use mathlib.Core.Bool.{Bool, true, false, ◌&&◌}
use mathlib.Core.List.{List, [], ◌∷◌}
use Prim.Native.Nat.{ℕ, zero, suc, ◌+◌, ◌-◌, ◌*◌, ◌≤◌, ◌<◌}
use native.Mathlib.Omega.{arith}
use native.Mathlib.Nat.{add-zero}
use native.Mathlib.Decide.{dec_lt}
use lib.Bits.{bit_or, or_add_and, and_le_l, and_le_r}
use lib.ListN.{length, drop, get_or, length-drop}
use lib.Seq.{ext_get_or, get_or-take, get_or-drop, length-take-le}
use Rattle.text.specs.Truth.{part, between, either}
use Rattle.text.specs.Quoted.{among, followed_by}
use Rattle.text.specs.Classes.{digit, capital, reference_set, capital_or_digit}
use Rattle.text.proofs.Truths.{between_true, between_over}
use Rattle.text.proofs.Digits.{digit_range, capital_range}
use Rattle.check97.specs.Check.{spell}
use Rattle.check97.proofs.Spelled.{onto_capital}
use Rattle.check97.proofs.Told.{number_cons}
use Rattle.swift_values.specs.Lanes.{ref_one, cap_one, Run}
use Rattle.swift_values.specs.Blocks.{All, AllAt, AllPassed, number}
use Rattle.swift_values.proofs.Lanes.{and_split}

-- ---- the loop over a block
pub or_none : (a b : ℕ) → bit_or a b ≡ 0 → (a ≡ 0) × (b ≡ 0)
or_none a b e = (omega (arith, or_add_and a b, and_le_r a b), omega (arith, or_add_and a b, and_le_l a b))

module _ (P : ℕ → ℕ → Bool → Type 0) (s : List ℕ) (p : ℕ) where
  pub passed_none : AllPassed P s p 0
  passed_none = record { each = λ j h. absurd (let z : ⊥ = omega arith in z) }

  pub passed_on : (i : ℕ) (r b : Bool) → (r ≡ true → AllPassed P s p i) → P i (get_or s (p + i) 0) b → (r && b) ≡ true → AllPassed P s p (i + 1)
  passed_on i r b h e z = record { each = go }
    where
      o : (r ≡ true) × (b ≡ true)
      o = and_split r b z

      go : (j : ℕ) → j < i + 1 → P j (get_or s (p + j) 0) true
      go j l =
          elim (dec_lt j i) [
            | yes a ↦ (h o.0).each j a
            | no a ↦ let y : j ≡ i = omega arith in rw (y, ← o.1) e
          ]

  -- what each pass tells of the byte
  pub all_of : (f : ℕ → Bool) → ((j c : ℕ) → P j c true → f c ≡ true) → (n : ℕ) → AllPassed P s p n → All f s p n
  all_of f h n a = record { each = λ j l. h _ _ (a.each j l) }

  pub all_at_of : (f : ℕ → ℕ → Bool) → ((j c : ℕ) → P j c true → f j c ≡ true) → (n : ℕ) → AllPassed P s p n → AllAt f s p n
  all_at_of f h n a = record { each = λ j l. h _ _ (a.each j l) }

module _ (f : ℕ → Bool) (s : List ℕ) (p : ℕ) where
  pub all_part : (n q k : ℕ) → All f s p n → p ≤ q → q + k ≤ p + n → All f s q k
  all_part n q k a h g =
      record {
        each = λ j l.
            let z : p + (q - p + j) ≡ q + j = omega arith in
            ap (λ (x : ℕ). f (get_or s x 0)) (sym z) ∙ a.each (q - p + j) (omega arith);
      }

  -- two blocks that meet or overlap
  pub all_join : (n q k : ℕ) → All f s p n → All f s q k → p ≤ q → q ≤ p + n → (l : ℕ) → p + l ≤ q + k → All f s p l
  all_join n q k a b h g l w = record { each = go }
    where
      go : (j : ℕ) → j < l → f (get_or s (p + j) 0) ≡ true
      go j i =
          elim (dec_lt (p + j) q) [
            | yes x ↦ a.each j (omega arith)
            | no x ↦
                let z : q + (p + j - q) ≡ p + j = omega arith in
                ap (λ (y : ℕ). f (get_or s y 0)) (sym z) ∙ b.each (p + j - q) (omega arith)
          ]

pub run_refs : (s : List ℕ) (p k : ℕ) → Run ref_one s p k → All reference_set s p k
run_refs s p k r = record { each = λ j h. r.each j h }

pub run_caps : (s : List ℕ) (p k : ℕ) → Run cap_one s p k → All capital_or_digit s p k
run_caps s p k r = record { each = λ j h. r.each j h }

-- ---- a capital or a digit
pub cap_either : (c : ℕ) → capital_or_digit c ≡ either (between 65 90 c) (either (between 48 57 c) false)
unfolding capital_or_digit among
cap_either c = refl

module _ (c : ℕ) (h : capital_or_digit c ≡ true) where
  pub cap_high : 65 ≤ c → (digit c ≡ false) × (capital c ≡ true)
  cap_high l = (no, capital_range c ∙ go (between 65 90 c) (sym (ap (λ (x : Bool). either (between 65 90 c) (either x false)) (between_over 48 57 c (omega arith))) ∙ sym (cap_either c) ∙ h))
    where
      no : digit c ≡ false
      no = digit_range c ∙ between_over 48 57 c (omega arith)

      go : (b : Bool) → either b (either false false) ≡ true → b ≡ true
      go true e = refl
      go false e = e

  pub high_onto : (s : ℕ) → 65 ≤ c → (c ≤ 90) × (followed_by s (spell c) ≡ s * 100 + (c - 55))
  high_onto s l =
      let b = between_true 65 90 c (sym (capital_range c) ∙ (cap_high l).1) in
      (b.1, onto_capital s c (cap_high l).0 (cap_high l).1)

-- ---- a part byte by byte
module _ (m : List ℕ) (p n : ℕ) (fits : p + n ≤ length m) where
  pub part_size : length (part p n m) ≡ n
  part_size = length-take-le n (drop p m) (omega (arith, length-drop p m))

  pub part_byte : (i : ℕ) → i < n → get_or (part p n m) i 0 ≡ get_or m (p + i) 0
  part_byte i h = get_or-take n (drop p m) i 0 h ∙ get_or-drop p m i 0

module _ (m : List ℕ) (p : ℕ) (fits : p + 4 ≤ length m) where
  pub four_list : part p 4 m ≡ get_or m p 0 ∷ get_or m (p + 1) 0 ∷ get_or m (p + 2) 0 ∷ get_or m (p + 3) 0 ∷ []
  four_list = ext_get_or 0 (part p 4 m) (get_or m p 0 ∷ get_or m (p + 1) 0 ∷ get_or m (p + 2) 0 ∷ get_or m (p + 3) 0 ∷ []) (part_size m p 4 fits) (λ i h. go i (omega (arith, part_size m p 4 fits)))
    where
      go : (i : ℕ) → i < 4 → get_or (part p 4 m) i 0 ≡ get_or (get_or m p 0 ∷ get_or m (p + 1) 0 ∷ get_or m (p + 2) 0 ∷ get_or m (p + 3) 0 ∷ []) i 0
      go zero h = part_byte m p 4 fits 0 h ∙ ap (λ (x : ℕ). get_or m x 0) (add-zero p)
      go (suc zero) h = part_byte m p 4 fits 1 h
      go (suc (suc zero)) h = part_byte m p 4 fits 2 h
      go (suc (suc (suc zero))) h = part_byte m p 4 fits 3 h
      go (suc (suc (suc (suc i)))) h = absurd (let z : ⊥ = omega arith in z)

  pub four_number : (a b c d : ℕ) → a ≡ followed_by 0 (spell (get_or m p 0)) → b ≡ followed_by a (spell (get_or m (p + 1) 0)) → c ≡ followed_by b (spell (get_or m (p + 2) 0)) → d ≡ followed_by c (spell (get_or m (p + 3) 0))
      → d ≡ number 0 (part p 4 m)
  four_number a b c d ea eb ec ed =
      let b0 = get_or m p 0 in
      let b1 = get_or m (p + 1) 0 in
      let b2 = get_or m (p + 2) 0 in
      let b3 = get_or m (p + 3) 0 in
      ed ∙ rw (ec, eb, ea) (sym (ap (number 0) four_list ∙ number_cons 0 b0 (b1 ∷ b2 ∷ b3 ∷ []) ∙ number_cons (followed_by 0 (spell b0)) b1 (b2 ∷ b3 ∷ [])
      ∙ number_cons (followed_by (followed_by 0 (spell b0)) (spell b1)) b2 (b3 ∷ []) ∙ number_cons (followed_by (followed_by (followed_by 0 (spell b0)) (spell b1)) (spell b2)) b3 []))

pub back : (b : ℕ) → 48 ≤ b → b ≡ (b - 48) + 48
back b h = omega arith
