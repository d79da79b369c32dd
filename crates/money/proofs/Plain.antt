-- A number in its plain spelling: as much as before, of the form where it was, and one spelling for each number.
use mathlib.Core.Path.{◌≡◌, refl, sym, ap, ◌∙◌}
use mathlib.Core.Logic.{◌⊎◌, inl, inr}
use mathlib.Core.Bool.{Bool, true, false}
use mathlib.Core.List.{List, [], ◌∷◌, ◌++◌}
use Prim.Native.Nat.{ℕ, zero, suc, min, ◌+◌, ◌-◌, ◌*◌, ◌≤◌, ◌<◌}
use native.Mathlib.Omega.{arith}
use borrow.Author.Tests.{eqb-true}
use lib.ListN.{length, drop, replicate, length-append, length-replicate, length-take}
use lib.Seq.{take_at, drop_at}
use lib.Dec.{eqb}
use Rattle.text.specs.Truth.{either, pick, every, lead}
use Rattle.text.specs.Quoted.{byte, is, followed_by, decimal, among}
use Rattle.text.specs.Classes.{digit}
use Rattle.text.proofs.Truths.{never, both_true, between_true, between_of, passes, pass, done, lt_or_ge}
use Rattle.text.proofs.Scan.{lead_every, lead_before, every_take, every_drop, every_append}
use Rattle.text.proofs.Digits.{digit_bounds}
use Rattle.money.specs.Count.{count_form, count_given}
use Rattle.money.specs.Amount.{euros, behind_euros, as_two_digits, point_form, amount_form, cents, amount_given}
use Rattle.money.specs.Plain.{without_zeros, plain_amount}
use Rattle.money.specs.declared.Range.{Range}
use Rattle.money.proofs.Fractions.{hundred, point}

-- ---- without zeros in front
-- what holds of a list, and stays where a zero in front is left out
zeros_by : (P : List ℕ → Type 0) → ((d : ℕ) (s : List ℕ) → P (byte "0" ∷ d ∷ s) → P (d ∷ s)) → (s : List ℕ) → P s → P (without_zeros s)
zeros_by P less [] p = p
zeros_by P less (c ∷ []) p = p
zeros_by P less (c ∷ d ∷ s) p = go (eqb c (byte "0")) refl (zeros_by P less (d ∷ s))
  where
    go : (b : Bool) → eqb c (byte "0") ≡ b → (P (d ∷ s) → P (without_zeros (d ∷ s))) → P (pick b (without_zeros (d ∷ s)) (c ∷ d ∷ s))
    go true e rec = rec (less d s (rw (eqb-true c (byte "0") e) at p))
    go false e rec = p

pub zeros_number : (s : List ℕ) → decimal (without_zeros s) ≡ decimal s
unfolding decimal
zeros_number s = zeros_by (λ (t : List ℕ). decimal t ≡ decimal s) (λ d t e. e) s refl

pub zeros_every : (f : ℕ → Bool) (s : List ℕ) → every f s ≡ true → every f (without_zeros s) ≡ true
zeros_every f s = zeros_by (λ (t : List ℕ). every f t ≡ true) (λ d t e. (both_true (f (byte "0")) (every f (d ∷ t)) e).1) s

pub zeros_long : (n : ℕ) (s : List ℕ) → (1 ≤ length s) × (length s ≤ n) → (1 ≤ length (without_zeros s)) × (length (without_zeros s) ≤ n)
zeros_long n s = zeros_by (λ (t : List ℕ). (1 ≤ length t) × (length t ≤ n)) (λ d t h. (omega arith, omega arith)) s

pub zeros_short : (s : List ℕ) → length (without_zeros s) ≤ length s
zeros_short s = zeros_by (λ (t : List ℕ). length t ≤ length s) (λ d t h. omega arith) s (omega arith)

pub zeros_twice : (s : List ℕ) → without_zeros (without_zeros s) ≡ without_zeros s
zeros_twice [] = refl
zeros_twice (c ∷ []) = refl
zeros_twice (c ∷ d ∷ s) = go (eqb c (byte "0")) refl (zeros_twice (d ∷ s))
  where
    go : (b : Bool) → eqb c (byte "0") ≡ b → without_zeros (without_zeros (d ∷ s)) ≡ without_zeros (d ∷ s)
        → without_zeros (pick b (without_zeros (d ∷ s)) (c ∷ d ∷ s)) ≡ pick b (without_zeros (d ∷ s)) (c ∷ d ∷ s)
    go true e h = h
    go false e h = rw e

-- ---- told by how many zeros lead: all of them are needless but a last digit
abbrev pub zero_byte : ℕ → Bool
zero_byte c = eqb c 48

pub zeros_lead : (s : List ℕ) → without_zeros s ≡ drop (min (lead zero_byte s) (length s - 1)) s
zeros_lead [] = let z : min 0 (length {A = ℕ} [] - 1) ≡ 0 = omega arith in ap (λ (k : ℕ). drop {A = ℕ} k []) (sym z)
zeros_lead (c ∷ []) = let z : min (lead zero_byte (c ∷ [])) (1 - 1) ≡ 0 = omega arith in ap (λ (k : ℕ). drop k (c ∷ [])) (sym z)
zeros_lead (c ∷ d ∷ s) = go (eqb c 48) (zeros_lead (d ∷ s))
  where
    go : (b : Bool) → without_zeros (d ∷ s) ≡ drop (min (lead zero_byte (d ∷ s)) (length (d ∷ s) - 1)) (d ∷ s)
        → pick b (without_zeros (d ∷ s)) (c ∷ d ∷ s) ≡ drop (min (pick b (suc (lead zero_byte (d ∷ s))) 0) (length (c ∷ d ∷ s) - 1)) (c ∷ d ∷ s)
    go true h =
        let k = min (lead zero_byte (d ∷ s)) (length (d ∷ s) - 1) in
        let z : min (suc (lead zero_byte (d ∷ s))) (length (c ∷ d ∷ s) - 1) ≡ suc k = omega arith in
        rw z h
    go false h = let z : min 0 (length (c ∷ d ∷ s) - 1) ≡ 0 = omega arith in ap (λ (k : ℕ). drop k (c ∷ d ∷ s)) (sym z)

-- ---- one spelling for each number
-- as many digits that write one number are the same digits
same_digits : (m n : ℕ) (s t : List ℕ) → length s ≡ length t → every digit s ≡ true → every digit t ≡ true → followed_by m s ≡ followed_by n t → (m ≡ n) × (s ≡ t)
same_digits m n [] [] l h g e = (e, refl)
same_digits m n [] (d ∷ t) l h g e = never (omega arith)
same_digits m n (c ∷ s) [] l h g e = never (omega arith)
same_digits m n (c ∷ s) (d ∷ t) l h g e =
    let a = both_true (digit c) (every digit s) h in
    let b = both_true (digit d) (every digit t) g in
    let z = same_digits (m * 10 + (c - 48)) (n * 10 + (d - 48)) s t (omega arith) a.1 b.1 e in
    let x : m * 10 + (c - 48) ≡ n * 10 + (d - 48) = z.0 in
    let y : c ≡ d = omega (arith, digit_bounds c a.0, digit_bounds d b.0) in
    (omega (arith, digit_bounds c a.0, digit_bounds d b.0), ap (λ (k : ℕ). k ∷ s) y ∙ ap (λ (l : List ℕ). d ∷ l) z.1)

two_one : (s t : List ℕ) → length s ≡ length t → every digit s ≡ true → every digit t ≡ true → decimal s ≡ decimal t → s ≡ t
unfolding decimal
two_one s t l h g e = (same_digits 0 0 s t l h g e).1

-- so many zeros in front
abbrev zeros : ℕ → List ℕ → List ℕ
zeros n s = replicate n (byte "0") ++ s

padded_number : (n : ℕ) (s : List ℕ) → followed_by 0 (zeros n s) ≡ followed_by 0 s
padded_number zero s = refl
padded_number (suc n) s = padded_number n s

padded_digits : (n : ℕ) (s : List ℕ) → every digit s ≡ true → every digit (zeros n s) ≡ true
unfolding digit among
padded_digits zero s h = h
padded_digits (suc n) s h = padded_digits n s h

padded_plain : (n c : ℕ) (s : List ℕ) → without_zeros (zeros n (c ∷ s)) ≡ without_zeros (c ∷ s)
padded_plain zero c s = refl
padded_plain (suc zero) c s = refl
padded_plain (suc (suc n)) c s = padded_plain (suc n) c s

padded_one : (s t : List ℕ) → 1 ≤ length s → length s ≤ length t → every digit s ≡ true → every digit t ≡ true → decimal s ≡ decimal t → without_zeros s ≡ without_zeros t
unfolding decimal
padded_one [] t l k h g e = never (omega arith)
padded_one (c ∷ s) t l k h g e =
    let n = length t - length (c ∷ s) in
    let long : length (zeros n (c ∷ s)) ≡ length t = length-append (replicate n (byte "0")) (c ∷ s) ∙ omega (arith, length-replicate n (byte "0")) in
    let z = same_digits 0 0 (zeros n (c ∷ s)) t long (padded_digits n (c ∷ s) h) g (padded_number n (c ∷ s) ∙ e) in
    sym (padded_plain n c s) ∙ ap without_zeros z.1

pub zeros_one : (s t : List ℕ) → 1 ≤ length s → 1 ≤ length t → every digit s ≡ true → every digit t ≡ true → decimal s ≡ decimal t → without_zeros s ≡ without_zeros t
zeros_one s t l k h g e = go (lt_or_ge (length s) (length t))
  where
    go : (length s < length t) ⊎ (length t ≤ length s) → without_zeros s ≡ without_zeros t
    go (inl x) = padded_one s t l (omega arith) h g e
    go (inr x) = sym (padded_one t s k x g h (sym e))

-- ---- counts
pub count_parts : (s : List ℕ) → count_form s ≡ true → (1 ≤ length s) × (length s ≤ 15) × (every digit s ≡ true)
unfolding count_form
count_parts s form =
    let h = between_true 1 15 (length s) (passes _ form 0) in
    (h.0, h.1, passes _ form 1)

plain_count_form : (s : List ℕ) → count_form s ≡ true → count_form (without_zeros s) ≡ true
unfolding count_form
plain_count_form s form =
    let p = count_parts s form in
    let l = zeros_long 15 s (p.0, p.1) in
    pass true _ _ (between_of 1 15 (length (without_zeros s)) l.0 l.1) (pass true _ _ (zeros_every digit s p.2) done)

pub plain_count : (s : List ℕ) → count_form s ≡ true → count_given (without_zeros s) ≡ count_given s
unfolding count_given
plain_count s form = rw (form, plain_count_form s form, zeros_number s)

pub count_one : (s t : List ℕ) → count_form s ≡ true → count_form t ≡ true → decimal s ≡ decimal t → without_zeros s ≡ without_zeros t
count_one s t f g e =
    let p = count_parts s f in
    let q = count_parts t g in
    zeros_one s t p.0 q.0 p.2 q.2 e

-- ---- amounts
pub two_long : (f : List ℕ) → length (as_two_digits f) ≡ 2
two_long [] = refl
two_long (a ∷ []) = refl
two_long (a ∷ b ∷ f) = refl

two_twice : (f : List ℕ) → as_two_digits (as_two_digits f) ≡ as_two_digits f
two_twice [] = refl
two_twice (a ∷ []) = refl
two_twice (a ∷ b ∷ f) = refl

two_every : (g : ℕ → Bool) → g (byte "0") ≡ true → (f : List ℕ) → every g f ≡ true → every g (as_two_digits f) ≡ true
two_every g z [] h = rw z
two_every g z (a ∷ []) h = rw ((both_true (g a) true h).0, z)
two_every g z (a ∷ b ∷ f) h =
    let x = both_true (g a) (every g (b ∷ f)) h in
    rw (x.0, (both_true (g b) (every g f) x.1).0)

no_digit : digit (byte ".") ≡ false
unfolding digit among
no_digit = refl

zero_digit : digit (byte "0") ≡ true
unfolding digit among
zero_digit = refl

-- the parts of an amount in its plain spelling
module _ (s : List ℕ) where
  abbrev decimals : List ℕ
  decimals = drop 1 (behind_euros s)

  abbrev whole : List ℕ
  whole = without_zeros (euros s)

  whole-digits : every digit whole ≡ true
  whole-digits = zeros_every digit (euros s) (lead_every digit s)

  whole-lead : lead digit (plain_amount s) ≡ length whole
  unfolding plain_amount
  whole-lead = lead_before digit whole (byte ".") (as_two_digits decimals) whole-digits no_digit

  pub plain_euros : euros (plain_amount s) ≡ whole
  unfolding plain_amount
  plain_euros = rw whole-lead (take_at whole (byte "." ∷ as_two_digits decimals) (length whole) refl)

  pub plain_behind : behind_euros (plain_amount s) ≡ byte "." ∷ as_two_digits decimals
  unfolding plain_amount
  plain_behind = rw whole-lead (drop_at whole (byte "." ∷ as_two_digits decimals) (length whole) refl)

  pub plain_cents : cents (plain_amount s) ≡ cents s
  unfolding cents
  plain_cents = rw (plain_euros, plain_behind, zeros_number (euros s), two_twice decimals)

  pub plain_twice : plain_amount (plain_amount s) ≡ plain_amount s
  unfolding plain_amount
  plain_twice = rw (plain_euros, plain_behind, zeros_twice (euros s), two_twice decimals)

  -- longer by the point and two decimals at most
  pub plain_short : length (plain_amount s) ≤ length s + 3
  unfolding plain_amount
  plain_short =
      omega (arith, length-append whole (byte "." ∷ as_two_digits decimals), two_long decimals, zeros_short (euros s), length-take (lead digit s) s)

  pub plain_every : (g : ℕ → Bool) → g (byte ".") ≡ true → g (byte "0") ≡ true → every g s ≡ true → every g (plain_amount s) ≡ true
  unfolding plain_amount
  plain_every g p z h =
      every_append g whole (byte "." ∷ as_two_digits decimals) (zeros_every g (euros s) (every_take g (lead digit s) s h))
      (rw p (two_every g z decimals (every_drop g 1 (behind_euros s) (every_drop g (lead digit s) s h))))

-- what the form of an amount tells
pub record Parts (s : List ℕ) : Type 0 where
  pub low : 1 ≤ length (euros s)
  pub high : length (euros s) ≤ 15
  pub digits : every digit (drop 1 (behind_euros s)) ≡ true

pub amount_parts : (s : List ℕ) → amount_form s ≡ true → Parts s
unfolding amount_form
amount_parts s form =
    let h = between_true 1 15 (length (euros s)) (passes _ form 0) in
    record { low = h.0; high = h.1; digits = go (behind_euros s) (passes _ form 1) }
  where
    go : (t : List ℕ) → either (is "" t) (point_form t) ≡ true → every digit (drop 1 t) ≡ true
    go [] e = refl
    go (c ∷ t) e = (point (c ∷ t) e).digits

module _ (s : List ℕ) (form : amount_form s ≡ true) where
  plain-point : point_form (byte "." ∷ as_two_digits (decimals s)) ≡ true
  unfolding point_form
  plain-point =
      pass true _ _ refl
      (pass true _ _ (rw (two_long (decimals s))) (pass true _ _ (two_every digit zero_digit (decimals s) (amount_parts s form).digits) done))

  plain_form : amount_form (plain_amount s) ≡ true
  unfolding amount_form
  plain_form =
      let p = amount_parts s form in
      let l = zeros_long 15 (euros s) (p.low, p.high) in
      pass true _ _ (rw (plain_euros s) (between_of 1 15 (length (whole s)) l.0 l.1))
      (pass true _ _ (rw (plain_behind s, plain-point)) done)

  pub plain_amount_lem : (k : Range) → amount_given k (plain_amount s) ≡ amount_given k s
  unfolding amount_given
  plain_amount_lem k = rw (form, plain_form, plain_cents s)

  -- 15 digits, the point and two decimals at most
  pub plain_long : length (plain_amount s) ≤ 18
  unfolding plain_amount
  plain_long =
      let p = amount_parts s form in
      let l = zeros_long 15 (euros s) (p.low, p.high) in
      rw (length-append (whole s) (byte "." ∷ as_two_digits (decimals s))) (omega (arith, two_long (decimals s), l))

pub amount_one : (s t : List ℕ) → amount_form s ≡ true → amount_form t ≡ true → cents s ≡ cents t → plain_amount s ≡ plain_amount t
unfolding cents plain_amount
amount_one s t f g e =
    let p = amount_parts s f in
    let q = amount_parts t g in
    let x = hundred (decimals s) p.digits in
    let y = hundred (decimals t) q.digits in
    let a : decimal (euros s) ≡ decimal (euros t) = omega arith in
    let b : decimal (as_two_digits (decimals s)) ≡ decimal (as_two_digits (decimals t)) = omega arith in
    rw (
      zeros_one (euros s) (euros t) p.low q.low (lead_every digit s) (lead_every digit t) a,
      two_one (as_two_digits (decimals s)) (as_two_digits (decimals t))
          (two_long (decimals s) ∙ sym (two_long (decimals t))) (two_every digit zero_digit (decimals s) p.digits) (two_every digit zero_digit (decimals t) q.digits) b,
    )
