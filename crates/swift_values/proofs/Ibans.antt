-- An IBAN: its form and its number are what the definition asks.
use mathlib.Core.Path.{◌≡◌, refl, sym, ap, ◌∙◌}
use mathlib.Core.Bool.{Bool, true, false, ◌&&◌}
use mathlib.Core.List.{List, [], ◌∷◌, ◌++◌}
use Prim.Native.Nat.{ℕ, ◌+◌, ◌-◌, ◌*◌, ◌%◌, ◌≤◌, ◌<◌}
use native.Mathlib.Omega.{arith}
use native.Mathlib.Nat.{add-zero}
use borrow.Author.Tests.{eq-eqb, eqb-true}
use lib.Dec.{eqb, leb}
use lib.ListN.{length, take, drop, get_or}
use lib.Seq.{ext_get_or}
use Rattle.text.specs.Truth.{part, between, every}
use Rattle.text.specs.Quoted.{decimal}
use Rattle.text.specs.Classes.{digit, capital, capital_or_digit}
use Rattle.text.proofs.Truths.{pass, done, between_of, between_over}
use Rattle.text.proofs.Scan.{rest_of, two_at}
use Rattle.text.proofs.Digits.{capital_bounds, digit_range}
use Rattle.text.proofs.Decimal.{linear, decimal_followed}
use Rattle.check97.specs.Check.{spelled, leaves_one, in_range, iban_checked}
use Rattle.check97.proofs.Spelled.{spell_digit, spell_capital}
use Rattle.check97.proofs.Told.{number_append}
use Rattle.answers.specs.Given.{yes}
use Rattle.accounts.specs.Head.{head}
use Rattle.accounts.specs.Lengths.{length_of}
use Rattle.accounts.specs.Iban.{iban_form, iban_length, iban_given}
use Rattle.profile.specs.declared.Kind.TheVariants.{Plain}
use Rattle.profile.specs.declared.Simple.TheVariants.{Iban}
use Rattle.tags.specs.Values.{in_value}
use Rattle.kinds.specs.Given.{simple_given}
use Rattle.swift_values.specs.Stands.{Stands}
use Rattle.swift_values.specs.Blocks.{number, Headed, Checked}
use Rattle.swift_values.proofs.Lanes.{and_split}
use Rattle.swift_values.proofs.Parts.{stands_part, every_part, cap_in}
use Rattle.swift_values.proofs.Blocks.{part_size, part_byte, four_list, all_part}

pub headed : (s : List ℕ) (p : ℕ) (a b c d : Bool) → a ≡ capital (get_or s p 0) → b ≡ capital (get_or s (p + 1) 0) → c ≡ digit (get_or s (p + 2) 0) → d ≡ digit (get_or s (p + 3) 0)
    → (((a && b) && c) && d) ≡ true → Headed s p
headed s p a b c d ea eb ec ed h =
    let x = and_split ((a && b) && c) d h in
    let y = and_split (a && b) c x.0 in
    let z = and_split a b y.0 in
    record { first = sym ea ∙ z.0; second = sym eb ∙ z.1; third = sym ec ∙ y.1; fourth = sym ed ∙ x.1 }

pub ranges : (n k : ℕ) → n ≡ k → (leb 2 n && leb n 98) ≡ true → between 2 98 k ≡ true
ranges n k e h = let x = and_split (leb 2 n) (leb n 98) h in rw (← e, x.0, x.1) refl

-- ---- parts
module _ (m : List ℕ) (p n : ℕ) (fits : p + n ≤ length m) where
  pub part_part : (a k : ℕ) → a + k ≤ n → part a k (part p n m) ≡ part (p + a) k m
  part_part a k h =
      let v = part p n m in
      let f : a + k ≤ length v = omega (arith, part_size m p n fits) in
      let g : p + a + k ≤ length m = omega arith in
      ext_get_or 0 (part a k v) (part (p + a) k m) (part_size v a k f ∙ sym (part_size m (p + a) k g))
      (λ i l.
      let w : i < k = omega (arith, part_size v a k f) in
      let z : p + (a + i) ≡ p + a + i = omega arith in
      part_byte v a k f i w ∙ part_byte m p n fits (a + i) (omega arith) ∙ ap (λ (x : ℕ). get_or m x 0) z ∙ sym (part_byte m (p + a) k g i w))

  pub drop_part : (a : ℕ) → a ≤ n → drop a (part p n m) ≡ part (p + a) (n - a) m
  drop_part a h =
      sym (rest_of a (part p n m)) ∙ ap (λ (x : ℕ). take (x - a) (drop a (part p n m))) (part_size m p n fits) ∙ part_part a (n - a) (omega arith)

-- ---- numbers
module _ (m : List ℕ) (p : ℕ) (fits : p + 4 ≤ length m) (h : Headed m p) where
  six-places : length (spelled (part p 4 m)) ≡ 6
  six-places =
      let b0 = get_or m p 0 in
      let b1 = get_or m (p + 1) 0 in
      let b2 = get_or m (p + 2) 0 in
      let b3 = get_or m (p + 3) 0 in
      rw (four_list m p fits, spell_capital b0 (no b0 h.first) h.first, spell_capital b1 (no b1 h.second) h.second, spell_digit b2 h.third, spell_digit b3 h.fourth) refl
    where
      no : (c : ℕ) → capital c ≡ true → digit c ≡ false
      no c e = digit_range c ∙ between_over 48 57 c (omega (arith, capital_bounds c e))

-- two numbers that differ by multiples of 97
pub same_rest : (x u y : ℕ) → x ≡ y + 97 * u → x % 97 ≡ y % 97
same_rest x u y e = omega arith

module _ (m : List ℕ) (p h : ℕ) (fits : p + 4 ≤ length m) (head : Headed m p) (eh : h ≡ number 0 (part p 4 m)) where
  pub behind_head : (s : ℕ) → number s (part p 4 m) ≡ s * 1000000 + h
  behind_head s = linear s (spelled (part p 4 m)) ∙ rw (six-places m p fits head, eh) refl

-- ---- the whole
-- the countries whose IBANs have 22 characters
pub has_22 : (a b x y : ℕ) → a ≡ x → length_of (x ∷ y ∷ []) ≡ 22 → eqb b y ≡ true → length_of (a ∷ b ∷ []) ≡ 22
has_22 a b x y e h t = rw (e, eqb-true b y t) h

-- ---- how an IBAN and an identifier begin
module _ (m : List ℕ) (p n : ℕ) (some : 4 ≤ n) (fits : p + n ≤ length m) where
  two-first : part 0 2 (part p n m) ≡ get_or m p 0 ∷ get_or m (p + 1) 0 ∷ []
  two-first = part_part m p n fits 0 2 (omega arith) ∙ rw (add-zero p) (two_at m p (omega arith))

  two_next : part 2 2 (part p n m) ≡ get_or m (p + 2) 0 ∷ get_or m (p + 3) 0 ∷ []
  two_next =
      let z : p + 2 + 1 ≡ p + 3 = omega arith in
      part_part m p n fits 2 2 (omega arith) ∙ two_at m (p + 2) (omega arith) ∙ ap (λ (x : ℕ). get_or m (p + 2) 0 ∷ get_or m x 0 ∷ []) z

  pub four_first : take 4 (part p n m) ≡ part p 4 m
  four_first = part_part m p n fits 0 4 (omega arith) ∙ ap (λ (i : ℕ). part i 4 m) (add-zero p)

  pub head_is : Headed m p → head (part p n m) ≡ true
  unfolding head
  head_is h = rw (two-first, two_next, h.first, h.second, h.third, h.fourth) refl

  pub range_is : between 2 98 (decimal (get_or m (p + 2) 0 ∷ get_or m (p + 3) 0 ∷ [])) ≡ true → in_range (part p n m) ≡ true
  unfolding in_range
  range_is h = rw two_next h

  -- the number that the check reads: what stands from a on, and the first four behind it
  pub turned_leaves : (a : ℕ) → a ≤ n → number (number 0 (part (p + a) (n - a) m)) (part p 4 m) % 97 ≡ 1 → leaves_one (drop a (part p n m) ++ take 4 (part p n m)) ≡ true
  unfolding leaves_one
  turned_leaves a h e =
      let w = drop a (part p n m) ++ take 4 (part p n m) in
      let x : w ≡ part (p + a) (n - a) m ++ part p 4 m =
      ap (λ (l : List ℕ). l ++ take 4 (part p n m)) (drop_part m p n fits a h) ∙ ap (λ (l : List ℕ). part (p + a) (n - a) m ++ l) four_first in
      let y : decimal (spelled w) % 97 ≡ 1 =
      ap (λ (k : ℕ). k % 97) (decimal_followed (spelled w) ∙ ap (number 0) x ∙ number_append 0 (part (p + a) (n - a) m) (part p 4 m)) ∙ e in
      rw y refl

-- the same the other way
pub one_left : (m : List ℕ) (p q j k l : ℕ) → k ≡ j → l ≡ 4 → leaves_one (take k (drop q m) ++ take l (drop p m)) ≡ true → number (number 0 (part q j m)) (part p 4 m) % 97 ≡ 1
unfolding leaves_one
one_left m p q j k l ek el e =
    let w = part q j m ++ part p 4 m in
    let h : eqb (decimal (spelled w) % 97) 1 ≡ true = rw (← ek, ← el) e in
    ap (λ (x : ℕ). x % 97) (sym (decimal_followed (spelled w) ∙ number_append 0 (part q j m) (part p 4 m))) ∙ eqb-true _ 1 h

-- ---- the IBAN
module _ (m : List ℕ) (p n : ℕ) (begun : 0 < p) (fits : p + n < length m) (behind : get_or m (p + n) 0 ≡ 60) (k : Checked m p n)
    (long : length_of (get_or m p 0 ∷ get_or m (p + 1) 0 ∷ []) ≡ n) (low : 15 ≤ n) (high : n ≤ 34) where
  within : p + n ≤ length m
  within = omega arith

  iban-value : every in_value (part p n m) ≡ true
  iban-value = every_part m p n within in_value (record { each = λ i h. cap_in (get_or m (p + i) 0) (k.caps.each i h) })

  caps-is : every capital_or_digit (drop 4 (part p n m)) ≡ true
  caps-is =
      ap (every capital_or_digit) (drop_part m p n within 4 (omega arith))
      ∙ every_part m (p + 4) (n - 4) (omega arith) capital_or_digit (all_part capital_or_digit m p n (p + 4) (n - 4) k.caps (omega arith) (omega arith))

  form-is : iban_form (part p n m) ≡ true
  unfolding iban_form
  form-is =
      pass _ _ _ (rw (part_size m p n within) (between_of 15 34 n (omega arith) (omega arith)))
      (pass _ _ _ (head_is m p n (omega arith) within k.head) (pass _ _ _ caps-is done))

  checked-is : iban_checked (part p n m) ≡ true
  unfolding iban_checked
  checked-is =
      rw (turned_leaves m p n (omega arith) within 4 (omega arith) k.leaves, range_is m p n (omega arith) within k.range) refl

  length-is : iban_length (part p n m) ≡ true
  unfolding iban_length
  length-is = rw (two-first m p n (omega arith) within, long, part_size m p n within) (eq-eqb n n refl)

  given_is : simple_given Iban (part p n m) ≡ yes
  unfolding simple_given iban_given
  given_is = rw (form-is, length-is, checked-is) refl

  pub iban_stands : Stands Iban m p (p + n)
  iban_stands = stands_part (Plain Iban) yes m p n begun fits iban-value behind given_is
