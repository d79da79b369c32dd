-- The first four characters go to the end, and what stands from m on comes first: m is 4 for an IBAN, and 7 for an identifier.
-- One character replaced, or two neighbours exchanged, of which one counts at least, also across the seam: the remainder changes.
-- Stated once over m, for digits and letters at once.
use mathlib.Core.Path.{◌≡◌, refl, ap, sym, ◌∙◌}
use mathlib.Core.Bool.{Bool, true, false}
use mathlib.Core.Logic.{◌≢◌, ◌⊎◌, inl, inr}
use mathlib.Core.List.{List, [], ◌∷◌, ◌++◌, append_assoc}
use Prim.Native.Nat.{ℕ, suc, ◌+◌, ◌-◌, ◌%◌, ◌<◌, ◌≤◌}
use native.Mathlib.Decide.{dec_lt}
use native.Mathlib.Omega.{arith}
use lib.ListN.{length, take, drop, length-append}
use lib.Seq.{take-append-le, drop-append-le, take-append-add, drop-append-add}
use borrow.Author.Tests.{eqb-true, eq-eqb, ne_eqb}
use lib.Dec.{eqb}
use Rattle.text.specs.Classes.{digit, capital}
use Rattle.text.proofs.Truths.{never}
use Rattle.text.proofs.Digits.{digit_bounds, capital_bounds, small_bounds, capital_no_digit, small_no_digit, small_no_capital}
use Rattle.text.proofs.Decimal.{decimal_followed}
use Rattle.check97.specs.Check.{two_digits, spell, spelled, places, worth, leaves_one}
use Rattle.check97.specs.Letters.{Letter, Mixed, pair}
use Rattle.check97.proofs.Spelled.{spell_capital, spell_small, digit_writes, capital_writes, small_writes, places_two, spelled_twice}
use Rattle.check97.proofs.Modulo.{same_behind}
use Rattle.check97.proofs.Told.{number, remains, number_append, replaced, first_replaced, respelled, pair_is, neighbours, same_neighbours, exchanged}

abbrev pub turned : ℕ → List ℕ → List ℕ
turned m s = drop m s ++ take 4 s

-- two characters of as many places, which is not none, and of different worth
pub record Unlike (a b : ℕ) : Type 0 where
  pub alike : places a ≡ places b
  pub written : 0 < places b
  pub apart : worth a ≢ worth b

pub turn_about : {a b : ℕ} → Unlike a b → Unlike b a
turn_about u = record { alike = sym u.alike; written = omega (arith, u.alike, u.written); apart = λ e. u.apart (sym e) }

-- unequal digits are such, and so are letters of different worth
pub digits_unlike : (a b : ℕ) → digit a ≡ true → digit b ≡ true → a ≢ b → Unlike a b
digits_unlike a b ha hb ne =
    let v = digit_writes a ha in
    let w = digit_writes b hb in
    record { alike = v.0 ∙ sym w.0; written = omega arith; apart = λ e. ne (omega (arith, digit_bounds a ha, digit_bounds b hb)) }

pub letter_places : (c : ℕ) → Letter c → places c ≡ 2
letter_places c (inl h) = (capital_writes c h).0
letter_places c (inr h) = (small_writes c h).0

pub letter_no_digit : (c : ℕ) → Letter c → digit c ≡ false
letter_no_digit c (inl h) = capital_no_digit c h
letter_no_digit c (inr h) = small_no_digit c h

-- a digit and a letter are never of one worth
letter_worth : (c : ℕ) → Letter c → 10 ≤ worth c
letter_worth c (inl h) = omega (arith, (capital_writes c h).1, capital_bounds c h)
letter_worth c (inr h) = omega (arith, (small_writes c h).1, small_bounds c h)

pub mixed_apart : (a b : ℕ) → Mixed a b → worth a ≢ worth b
mixed_apart a b (inl h) e = omega (arith, e, (digit_writes a h.0).1, digit_bounds a h.0, letter_worth b h.1)
mixed_apart a b (inr h) e = omega (arith, e, (digit_writes b h.1).1, digit_bounds b h.1, letter_worth a h.0)

pub letters_unlike : (a b : ℕ) → Letter a → Letter b → worth a ≢ worth b → Unlike a b
letters_unlike a b ha hb ne = record { alike = letter_places a ha ∙ sym (letter_places b hb); written = omega (arith, letter_places b hb); apart = ne }

-- unequal capitals have different worth
pub capitals_unlike : (a b : ℕ) → capital a ≡ true → capital b ≡ true → a ≢ b → Unlike a b
capitals_unlike a b ha hb ne =
    letters_unlike a b (inl ha) (inl hb)
    (λ e. ne (omega (arith, (capital_writes a ha).1, (capital_writes b hb).1, capital_bounds a ha, capital_bounds b hb)))

-- two such characters write one number in one order and another in the other
pub two_numbers : {x y : ℕ} → Unlike x y → pair x y ≢ pair y x
two_numbers {x} {y} u e =
    elim (dec_lt (places y) 2) [
      | yes h ↦ let k : places y ≡ 1 = omega (arith, u.written) in u.apart (omega (arith, pair_is x y 1 k, pair_is y x 1 (u.alike ∙ k)))
      | no h ↦ let k : places y ≡ 2 = omega (arith, places_two y) in u.apart (omega (arith, pair_is x y 2 k, pair_is y x 2 (u.alike ∙ k)))
    ]

-- letters of one worth are one letter, in one case or in two: they are spelled alike
letter_spelled : (c : ℕ) → Letter c → spell c ≡ two_digits (worth c)
letter_spelled c (inl h) = let b = capital_bounds c h in spell_capital c (capital_no_digit c h) h ∙ ap two_digits (omega (arith, (capital_writes c h).1))
letter_spelled c (inr h) = let b = small_bounds c h in spell_small c (small_no_digit c h) (small_no_capital c h) h ∙ ap two_digits (omega (arith, (small_writes c h).1))

pub one_letter : (a b : ℕ) → Letter a → Letter b → worth a ≡ worth b → spell a ≡ spell b
one_letter a b ha hb e = letter_spelled a ha ∙ ap two_digits e ∙ sym (letter_spelled b hb)

pub letters_pair : (a b : ℕ) → Letter a → Letter b → eqb (pair a b) (pair b a) ≡ eqb (worth a) (worth b)
letters_pair a b ha hb = go (eqb (worth a) (worth b)) refl
  where
    go : (x : Bool) → eqb (worth a) (worth b) ≡ x → eqb (pair a b) (pair b a) ≡ x
    go true e = eq-eqb (pair a b) (pair b a) (rw (one_letter a b ha hb (eqb-true (worth a) (worth b) e)))
    go false e = ne_eqb (pair a b) (pair b a) (two_numbers (letters_unlike a b ha hb (λ f. never (let z = eq-eqb (worth a) (worth b) f in (cc)))))

-- ---- where what stands behind p goes
front : (m : ℕ) (p r : List ℕ) → 4 ≤ m → m ≤ length p → turned m (p ++ r) ≡ drop m p ++ (r ++ take 4 p)
front m p r h g =
    let g' : 4 ≤ length p = omega arith in
    rw (drop-append-le m p r, take-append-le 4 p r, append_assoc)

take_behind : (n k : ℕ) (p r : List ℕ) → n ≡ length p + k → take n (p ++ r) ≡ p ++ take k r
take_behind n k p r e = rw (e, take-append-add)

pub drop_behind : (n k : ℕ) (p r : List ℕ) → n ≡ length p + k → drop n (p ++ r) ≡ drop k r
drop_behind n k p r e = rw (e, drop-append-add)

back : (m k j : ℕ) (p r : List ℕ) → 4 ≡ length p + k → m ≡ length p + j → turned m (p ++ r) ≡ (drop j r ++ p) ++ take k r
back m k j p r e f = rw (drop_behind m j p r f, take_behind 4 k p r e, append_assoc)

edge : (m : ℕ) (p r : List ℕ) → m ≡ length p + 1 → 4 ≤ length p → turned m (p ++ r) ≡ drop 1 r ++ take 4 p
edge m p r e h = rw (drop_behind m 1 p r e, take-append-le 4 p r)

-- two lists are told apart by what they are equal to
via : {u v u' v' : List ℕ} → u ≡ u' → v ≡ v' → remains u' ≢ remains v' → remains u ≢ remains v
via e f ne g = ne (ap remains (sym e) ∙ g ∙ ap remains f)

-- two neighbours, whatever their places: they are told apart exactly where the two orders write two numbers
module _ (m : ℕ) (p q : List ℕ) (x y : ℕ) (h : 4 ≤ m) where
  pub both_behind : m ≤ length p → pair x y ≢ pair y x → remains (turned m (p ++ (x ∷ y ∷ q))) ≢ remains (turned m (p ++ (y ∷ x ∷ q)))
  both_behind g ne = via (front m p (x ∷ y ∷ q) h g) (front m p (y ∷ x ∷ q) h g) (neighbours (drop m p) (q ++ take 4 p) x y ne)

  pub stays_behind : m ≤ length p → pair x y ≡ pair y x → remains (turned m (p ++ (x ∷ y ∷ q))) ≡ remains (turned m (p ++ (y ∷ x ∷ q)))
  stays_behind g e =
      ap remains (front m p (x ∷ y ∷ q) h g) ∙ same_neighbours (drop m p) (q ++ take 4 p) x y e ∙ ap remains (sym (front m p (y ∷ x ∷ q) h g))

  both_first : suc (length p) < 4 → pair x y ≢ pair y x → remains (turned m (p ++ (x ∷ y ∷ q))) ≢ remains (turned m (p ++ (y ∷ x ∷ q)))
  both_first g ne =
      let k = 2 - length p in
      let j = m - suc (suc (length p)) in
      via (back m (suc (suc k)) (suc (suc j)) p (x ∷ y ∷ q) (omega arith) (omega arith))
      (back m (suc (suc k)) (suc (suc j)) p (y ∷ x ∷ q) (omega arith) (omega arith))
      (neighbours (drop j q ++ p) (take k q) x y ne)

  -- the right one alone counts, and comes first of all
  pub right_counts : 4 < m → suc (length p) ≡ m → worth x ≢ worth y → remains (turned m (p ++ (x ∷ y ∷ q))) ≢ remains (turned m (p ++ (y ∷ x ∷ q)))
  right_counts l g ne =
      via (edge m p (x ∷ y ∷ q) (omega arith) (omega arith)) (edge m p (y ∷ x ∷ q) (omega arith) (omega arith))
      (first_replaced (q ++ take 4 p) y x (λ e. ne (sym e)))

  pub right_respelled : 4 < m → suc (length p) ≡ m → spell x ≡ spell y → remains (turned m (p ++ (x ∷ y ∷ q))) ≡ remains (turned m (p ++ (y ∷ x ∷ q)))
  right_respelled l g e =
      ap remains (edge m p (x ∷ y ∷ q) (omega arith) (omega arith))
      ∙ respelled [] (q ++ take 4 p) y x (sym e)
      ∙ ap remains (sym (edge m p (y ∷ x ∷ q) (omega arith) (omega arith)))

  -- one behind m that is spelled as the other was
  pub respelled_behind : m ≤ length p → spell x ≡ spell y → remains (turned m (p ++ (x ∷ q))) ≡ remains (turned m (p ++ (y ∷ q)))
  respelled_behind g e = ap remains (front m p (x ∷ q) h g) ∙ respelled (drop m p) (q ++ take 4 p) x y e ∙ ap remains (sym (front m p (y ∷ q) h g))

module _ (m : ℕ) (p q : List ℕ) (x y : ℕ) (u : Unlike x y) where
  -- ---- one replaced
  replaced-front : 4 ≤ m → m ≤ length p → remains (turned m (p ++ (x ∷ q))) ≢ remains (turned m (p ++ (y ∷ q)))
  replaced-front h g =
      via (front m p (x ∷ q) h g) (front m p (y ∷ q) h g) (replaced (drop m p) (q ++ take 4 p) x y u.alike u.apart)

  replaced-back : 4 ≤ m → length p < 4 → remains (turned m (p ++ (x ∷ q))) ≢ remains (turned m (p ++ (y ∷ q)))
  replaced-back h g =
      let k = 3 - length p in
      let j = m - suc (length p) in
      via (back m (suc k) (suc j) p (x ∷ q) (omega arith) (omega arith)) (back m (suc k) (suc j) p (y ∷ q) (omega arith) (omega arith))
      (replaced (drop j q ++ p) (take k q) x y u.alike u.apart)

  pub turned_replaced : 4 ≤ m → (length p < 4) ⊎ (m ≤ length p) → remains (turned m (p ++ (x ∷ q))) ≢ remains (turned m (p ++ (y ∷ q)))
  turned_replaced h (inl g) = replaced-back h g
  turned_replaced h (inr g) = replaced-front h g

  -- ---- two neighbours exchanged: both behind m, both among the first four, across the seam, or one of them counts and is replaced
  seam : m ≡ 4 → suc (length p) ≡ 4 → length q < 43 → remains (turned m (p ++ (x ∷ y ∷ q))) ≢ remains (turned m (p ++ (y ∷ x ∷ q)))
  seam h g hq =
      let v = turn_about u in
      via (back m 1 1 p (x ∷ y ∷ q) (omega arith) (omega arith)) (back m 1 1 p (y ∷ x ∷ q) (omega arith) (omega arith))
      (exchanged [] (q ++ p) [] y x v.alike v.written v.apart
      (omega (arith, spelled_twice (q ++ p), length-append q p, places_two x)))

  left-counts : 4 < m → suc (length p) ≡ 4 → remains (turned m (p ++ (x ∷ y ∷ q))) ≢ remains (turned m (p ++ (y ∷ x ∷ q)))
  left-counts h g =
      let j = m - suc (suc (length p)) in
      via (back m 1 (suc (suc j)) p (x ∷ y ∷ q) (omega arith) (omega arith)) (back m 1 (suc (suc j)) p (y ∷ x ∷ q) (omega arith) (omega arith))
      (replaced (drop j q ++ p) [] x y u.alike u.apart)

  pub turned_exchanged : 4 ≤ m → (length p < 4) ⊎ (m ≤ suc (length p)) → length q < 43 → remains (turned m (p ++ (x ∷ y ∷ q))) ≢ remains (turned m (p ++ (y ∷ x ∷ q)))
  turned_exchanged h (inl g) hq =
      elim (dec_lt (suc (length p)) 4) [
        | yes a ↦ both_first m p q x y h a (two_numbers u)
        | no a ↦ elim (dec_lt 4 m) [ yes b ↦ left-counts b (omega arith) | no b ↦ seam (omega arith) (omega arith) hq ]
      ]
  turned_exchanged h (inr g) hq =
      elim (dec_lt (length p) m) [
        | yes a ↦ elim (dec_lt 4 m) [ yes b ↦ right_counts m p q x y h b (omega arith) u.apart | no b ↦ seam (omega arith) (omega arith) hq ]
        | no a ↦ both_behind m p q x y h (omega arith) (two_numbers u)
      ]

-- ---- the check, in two runs of the code
pub two_runs : (s r : List ℕ) (t u : ℕ) → t ≡ number 0 s % 97 → u ≡ number t r % 97 → u ≡ remains (s ++ r)
two_runs s r t u e f =
    f ∙ same_behind t (number 0 s) (spelled r) (omega arith)
    ∙ ap (λ (k : ℕ). k % 97) (sym (number_append 0 s r) ∙ sym (decimal_followed (spelled (s ++ r))))

pub leaves_one_lem : (s r : List ℕ) (t u : ℕ) → t ≡ number 0 s % 97 → u ≡ number t r % 97 → eqb u 1 ≡ leaves_one (s ++ r)
unfolding leaves_one
leaves_one_lem s r t u e f = ap (λ (k : ℕ). eqb k 1) (two_runs s r t u e f)
