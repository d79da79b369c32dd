-- What the forms of BIC, IBAN and identifier say, and that an identifier's check reads what stands from its eighth character on and the first four.
use mathlib.Core.Path.{◌≡◌, refl, ap, sym, ◌∙◌}
use mathlib.Core.Bool.{Bool, true, false}
use mathlib.Core.Logic.{⊎_elim}
use mathlib.Core.List.{List, [], ◌∷◌, ◌++◌}
use Prim.Native.Nat.{ℕ, ◌-◌, ◌%◌, ◌≤◌}
use native.Mathlib.Omega.{arith}
use borrow.Author.Tests.{eqb-true}
use lib.ListN.{length, take, drop, get_or}
use lib.Seq.{take_at, drop_at, take-add, length-take-le}
use lib.Dec.{eqb}
use Rattle.text.specs.Truth.{both, either, pick, between, every, only, part}
use Rattle.text.specs.Quoted.{among, decimal}
use Rattle.text.specs.Classes.{digit, capital, small, capital_or_digit, letter_or_digit, reference_set}
use Rattle.text.proofs.Truths.{never, both_true, both_false, both_yes, either_true, either_same, between_true, between_over, passes}
use Rattle.text.proofs.Scan.{rest_of, two_at, only_append, only_all}
use Rattle.text.proofs.Sets.{everywhere, among_high}
use Rattle.text.proofs.Digits.{digit_range, capital_range, small_range}
use Rattle.check97.specs.Check.{spelled, moved, without_five_to_seven, leaves_one, in_range, identifier_checked}
use Rattle.check97.proofs.Spelled.{spelled_append, only_spelled}
use Rattle.accounts.specs.Head.{head}
use Rattle.accounts.specs.Iban.{iban_form}
use Rattle.accounts.specs.Identifier.{identifier_form}

-- ---- the seventh and the eighth character of a BIC
abbrev pub seventh : ℕ → Bool
seventh c = either (capital c) (between 50 57 c)

pub seventh_is : (c : ℕ) → among "A-Z 2-9" c ≡ seventh c
unfolding among capital
seventh_is = everywhere (among "A-Z 2-9") seventh tt (among_high "A-Z 2-9" refl) (λ c h. rw (among_high "A-Z" refl c h) (between_over 50 57 c (omega arith)))

abbrev pub eighth : ℕ → Bool
eighth c = pick (eqb c 79) false (capital_or_digit c)

pub eighth_is : (c : ℕ) → among "A-N P-Z 0-9" c ≡ eighth c
unfolding among capital_or_digit
eighth_is =
    everywhere (among "A-N P-Z 0-9") eighth tt (among_high "A-N P-Z 0-9" refl)
    (λ c h. rw (among_high "A-Z 0-9" refl c h) (pick-false (eqb c 79)))
  where
    pick-false : (b : Bool) → pick b false false ≡ false
    pick-false true = refl
    pick-false false = refl

-- ---- lengths
pub bic_long : (n : ℕ) → either (eqb n 8) (eqb n 11) ≡ true → 8 ≤ n
bic_long n e =
    ⊎_elim (λ (h : eqb n 8 ≡ true). omega (arith, eqb-true n 8 h)) (λ (h : eqb n 11 ≡ true). omega (arith, eqb-true n 11 h)) (either_true (eqb n 8) (eqb n 11) e)

pub iban_long : (s : List ℕ) → iban_form s ≡ true → (15 ≤ length s) × (length s ≤ 34)
unfolding iban_form
iban_long s e = between_true 15 34 (length s) (passes _ e 0)

pub identifier_long : (s : List ℕ) → identifier_form s ≡ true → (8 ≤ length s) × (length s ≤ 35)
unfolding identifier_form
identifier_long s e = between_true 8 35 (length s) (passes _ e 0)

-- ---- the check digits, as the code reads them
in_range_is : (s : List ℕ) (n : ℕ) → 4 ≤ length s → n ≡ decimal (get_or s 2 0 ∷ get_or s 3 0 ∷ []) → in_range s ≡ between 2 98 n
unfolding in_range
in_range_is s n h e = rw (two_at s 2 h, ← e)

-- v is whether they are from 02 to 98, and r whether what is read leaves 1
module _ (s : List ℕ) (m : ℕ) (h : 4 ≤ length s) {n : ℕ} (e : n ≡ decimal (get_or s 2 0 ∷ get_or s 3 0 ∷ [])) {v : Bool} (g : v ≡ between 2 98 n) where
  pub checked_then : {r : Bool} → v ≡ true → r ≡ leaves_one (take (length s - m) (drop m s) ++ take 4 s) → r ≡ both (leaves_one (drop m s ++ take 4 s)) (in_range s)
  checked_then t f =
      rw (in_range_is s n h e, sym g ∙ t)
      (f ∙ ap (λ (l : List ℕ). leaves_one (l ++ take 4 s)) (rest_of m s) ∙ sym (both_yes (leaves_one (drop m s ++ take 4 s))))

  pub checked_else : v ≡ false → v ≡ both (leaves_one (drop m s ++ take 4 s)) (in_range s)
  checked_else t = rw (in_range_is s n h e, sym g ∙ t) (t ∙ sym (both_false (leaves_one (drop m s ++ take 4 s))))

-- ---- what an identifier's check reads
pub capital_counts : (c : ℕ) → capital c ≡ true → letter_or_digit c ≡ true
unfolding letter_or_digit among
capital_counts c h = rw (sym (capital_range c) ∙ h)

pub digit_counts : (c : ℕ) → digit c ≡ true → letter_or_digit c ≡ true
unfolding letter_or_digit among
digit_counts c h = rw (sym (digit_range c) ∙ h, either_same (between 97 122 c)) (either_same (between 65 90 c))

pub small_counts : (c : ℕ) → small c ≡ true → letter_or_digit c ≡ true
unfolding letter_or_digit among
small_counts c h = rw (sym (small_range c) ∙ h) (either_same (between 65 90 c))

-- every letter or digit is in the reference set
pub counts_reference : (c : ℕ) → letter_or_digit c ≡ true → reference_set c ≡ true
unfolding letter_or_digit reference_set among
counts_reference c h = go (between 65 90 c) (between 97 122 c) (between 48 57 c) refl refl refl h
  where
    go : (x y z : Bool) → between 65 90 c ≡ x → between 97 122 c ≡ y → between 48 57 c ≡ z → either x (either y (either z false)) ≡ true → reference_set c ≡ true
    go true y z e f g h = rw e
    go false true z e f g h = rw (e, f)
    go false false true e f g h = rw (e, f, g)
    go false false false e f g h = never (cc)

first_four : (s : List ℕ) → head s ≡ true → only letter_or_digit (take 4 s) ≡ take 4 s
unfolding head
first_four s e =
    let h = both_true (every capital (part 0 2 s)) (every digit (part 2 2 s)) e in
    ap (only letter_or_digit) (take-add 2 2 s)
    ∙ only_append letter_or_digit (take 2 s) (part 2 2 s)
    ∙ ap (λ (l : List ℕ). l ++ only letter_or_digit (part 2 2 s)) (only_all letter_or_digit capital capital_counts (take 2 s) h.0)
    ∙ ap (λ (l : List ℕ). take 2 s ++ l) (only_all letter_or_digit digit digit_counts (part 2 2 s) h.1)
    ∙ sym (take-add 2 2 s)

moved_four : (t r : List ℕ) → length t ≡ 4 → moved (t ++ r) ≡ r ++ t
moved_four t r e = rw (drop_at t r 4 e, take_at t r 4 e)

same_one : (s t : List ℕ) → spelled s ≡ spelled t → leaves_one s ≡ leaves_one t
unfolding leaves_one
same_one s t e = ap (λ (l : List ℕ). eqb (decimal l % 97) 1) e

pub identifier_turned : (s : List ℕ) → identifier_form s ≡ true → identifier_checked s ≡ both (leaves_one (drop 7 s ++ take 4 s)) (in_range s)
unfolding identifier_checked identifier_form
identifier_turned s e =
    let long = between_true 8 35 (length s) (passes _ e 0) in
    let four : length (take 4 s) ≡ 4 = length-take-le 4 s (omega arith) in
    let line : moved (only letter_or_digit (without_five_to_seven s)) ≡ only letter_or_digit (drop 7 s) ++ take 4 s =
    ap moved (only_append letter_or_digit (take 4 s) (drop 7 s) ∙ ap (λ (l : List ℕ). l ++ only letter_or_digit (drop 7 s)) (first_four s (passes _ e 1)))
    ∙ moved_four (take 4 s) (only letter_or_digit (drop 7 s)) four in
    ap (λ (b : Bool). both b (in_range s))
    (ap leaves_one line
    ∙ same_one (only letter_or_digit (drop 7 s) ++ take 4 s) (drop 7 s ++ take 4 s)
    (spelled_append (only letter_or_digit (drop 7 s)) (take 4 s)
    ∙ ap (λ (l : List ℕ). l ++ spelled (take 4 s)) (only_spelled (drop 7 s))
    ∙ sym (spelled_append (drop 7 s) (take 4 s))))
