-- A creditor identifier by its head, its business code and what follows.
use mathlib.Core.Path.{◌≡◌, refl, sym, ap, ◌∙◌}
use mathlib.Core.Bool.{Bool, true, ◌&&◌}
use mathlib.Core.List.{List, [], ◌∷◌}
use Prim.Native.Nat.{ℕ, zero, suc, ◌+◌, ◌-◌, ◌%◌, ◌≤◌, ◌<◌}
use native.Mathlib.Omega.{arith}
use native.Mathlib.Nat.{add-zero}
use lib.ListN.{length, drop, get_or}
use Rattle.text.specs.Truth.{part, every, some}
use Rattle.text.specs.Classes.{digit, capital, letter_or_digit, reference_set}
use Rattle.text.proofs.Truths.{between_of, pass, done}
use Rattle.answers.specs.Given.{yes as said}
use Rattle.accounts.specs.Identifier.{identifier_form, identifier_given}
use Rattle.accounts.proofs.Forms.{digit_counts, capital_counts, counts_reference, identifier_turned}
use Rattle.check97.specs.Check.{identifier_checked}
use Rattle.profile.specs.declared.Kind.TheVariants.{Plain}
use Rattle.profile.specs.declared.Simple.TheVariants.{Identifier}
use Rattle.tags.specs.Values.{in_value}
use Rattle.kinds.specs.Given.{simple_given}
use Rattle.swift_values.specs.Stands.{Stands}
use Rattle.swift_values.specs.Blocks.{All, number, Headed, Identified}
use Rattle.swift_values.proofs.Values.{ref_in}
use Rattle.swift_values.proofs.Blocks.{part_size, part_byte, all_join}
use Rattle.swift_values.proofs.Lanes.{and_split}
use Rattle.swift_values.proofs.Parts.{every_part, stands_part}
use Rattle.swift_values.proofs.Ibans.{part_part, drop_part, head_is, range_is, turned_leaves}

pub three_of : (s : List ℕ) (p : ℕ) (a b c : Bool) → a ≡ letter_or_digit (get_or s p 0) → b ≡ letter_or_digit (get_or s (p + 1) 0) → c ≡ letter_or_digit (get_or s (p + 2) 0)
    → ((a && b) && c) ≡ true → All letter_or_digit s p 3
three_of s p a b c ea eb ec h = record { each = each }
  where
    x : ((a && b) ≡ true) × (c ≡ true)
    x = and_split (a && b) c h

    y : (a ≡ true) × (b ≡ true)
    y = and_split a b x.0

    each : (j : ℕ) → j < 3 → letter_or_digit (get_or s (p + j) 0) ≡ true
    each zero l = ap (λ (k : ℕ). letter_or_digit (get_or s k 0)) (add-zero p) ∙ sym ea ∙ y.0
    each (suc zero) l = sym eb ∙ y.1
    each (suc (suc zero)) l = sym ec ∙ x.1
    each (suc (suc (suc j))) l = absurd (let z : ⊥ = omega arith in z)

-- digits are of the reference set, and the first of them counts
module _ (m : List ℕ) (p k : ℕ) (ds : All digit m p k) where
  pub digits_set : All reference_set m p k
  digits_set = record { each = λ j h. counts_reference (get_or m (p + j) 0) (digit_counts (get_or m (p + j) 0) (ds.each j h)) }

  pub digits_first : 0 < k → letter_or_digit (get_or m p 0) ≡ true
  digits_first h = ap (λ (x : ℕ). letter_or_digit (get_or m x 0)) (sym (add-zero p)) ∙ digit_counts (get_or m (p + 0) 0) (ds.each 0 h)

-- ---- the first four
module _ (m : List ℕ) (p : ℕ) (h : Headed m p) where
  pub head_all : (f : ℕ → Bool) → ((c : ℕ) → capital c ≡ true → f c ≡ true) → ((c : ℕ) → digit c ≡ true → f c ≡ true) → All f m p 4
  head_all f g i = record { each = each }
    where
      each : (j : ℕ) → j < 4 → f (get_or m (p + j) 0) ≡ true
      each zero l = ap (λ (k : ℕ). f (get_or m k 0)) (add-zero p) ∙ g (get_or m p 0) h.first
      each (suc zero) l = g (get_or m (p + 1) 0) h.second
      each (suc (suc zero)) l = i (get_or m (p + 2) 0) h.third
      each (suc (suc (suc zero))) l = i (get_or m (p + 3) 0) h.fourth
      each (suc (suc (suc (suc j)))) l = absurd (let z : ⊥ = omega arith in z)

-- one of some is there
some_first : (f : ℕ → Bool) (s : List ℕ) → 0 < length s → f (get_or s 0 0) ≡ true → some f s ≡ true
some_first f [] h e = absurd (let z : ⊥ = omega arith in z)
some_first f (c ∷ s) h e = rw e refl

module _ (m : List ℕ) (p k : ℕ) (begun : 0 < p) (fits : p + (7 + k) < length m) (behind : get_or m (p + (7 + k)) 0 ≡ 60) (i : Identified m p k) (low : 1 ≤ k) (high : k ≤ 28) where
  within : p + (7 + k) ≤ length m
  within = omega arith

  head-counts : All letter_or_digit m p 4
  head-counts = head_all m p i.head letter_or_digit capital_counts digit_counts

  seven-count : All letter_or_digit m p 7
  seven-count = all_join letter_or_digit m p 4 (p + 4) 3 head-counts i.business (omega arith) (omega arith) 7 (omega arith)

  all_in : All in_value m p (7 + k)
  all_in =
      all_join in_value m p 7 (p + 7) k (record { each = λ j h. ref_in (get_or m (p + j) 0) (counts_reference (get_or m (p + j) 0) (seven-count.each j h)) })
      (record { each = λ j h. ref_in (get_or m (p + 7 + j) 0) (i.set.each j h) }) (omega arith) (omega arith) (7 + k) (omega arith)

  value_is : every in_value (part p (7 + k) m) ≡ true
  value_is = every_part m p (7 + k) within in_value all_in

  business-is : every letter_or_digit (part 4 3 (part p (7 + k) m)) ≡ true
  business-is = ap (every letter_or_digit) (part_part m p (7 + k) within 4 3 (omega arith)) ∙ every_part m (p + 4) 3 (omega arith) letter_or_digit i.business

  rest_is : drop 7 (part p (7 + k) m) ≡ part (p + 7) k m
  rest_is = let z : 7 + k - 7 ≡ k = omega arith in drop_part m p (7 + k) within 7 (omega arith) ∙ ap (λ (x : ℕ). part (p + 7) x m) z

  set_is : every reference_set (drop 7 (part p (7 + k) m)) ≡ true
  set_is =
      ap (every reference_set) rest_is
      ∙ every_part m (p + 7) k (omega arith) reference_set i.set

  some_is : some letter_or_digit (drop 7 (part p (7 + k) m)) ≡ true
  some_is =
      ap (some letter_or_digit) rest_is
      ∙ some_first letter_or_digit (part (p + 7) k m) (omega (arith, part_size m (p + 7) k (omega arith)))
      (ap letter_or_digit (part_byte m (p + 7) k (omega arith) 0 (omega arith) ∙ ap (λ (x : ℕ). get_or m x 0) (add-zero (p + 7))) ∙ i.first)

  form-is : identifier_form (part p (7 + k) m) ≡ true
  unfolding identifier_form
  form-is =
      pass _ _ _ (rw (part_size m p (7 + k) within) (between_of 8 35 (7 + k) (omega arith) (omega arith)))
      (pass _ _ _ (head_is m p (7 + k) (omega arith) within i.head) (pass _ _ _ business-is (pass _ _ _ set_is (pass _ _ _ some_is done))))

  checked-is : identifier_checked (part p (7 + k) m) ≡ true
  checked-is =
      let z : k ≡ 7 + k - 7 = omega arith in
      identifier_turned (part p (7 + k) m) form-is
      ∙ rw (turned_leaves m p (7 + k) (omega arith) within 7 (omega arith) (ap (λ (x : ℕ). number (number 0 (part (p + 7) x m)) (part p 4 m) % 97) (sym z) ∙ i.leaves), range_is m p (7 + k) (omega arith) within i.range) refl

  given_is : simple_given Identifier (part p (7 + k) m) ≡ said
  unfolding simple_given identifier_given
  given_is = rw (form-is, checked-is) refl

  pub identifier_stands : Stands Identifier m p (p + 7 + k)
  identifier_stands =
      let z : p + (7 + k) ≡ p + 7 + k = omega arith in
      rw z at (stands_part (Plain Identifier) said m p (7 + k) begun fits value_is behind given_is)
