-- A fraction: its form, and what it is worth in cents.
use mathlib.Core.Path.{◌≡◌, refl, ap, sym, ◌∙◌}
use mathlib.Core.Bool.{Bool, true, false}
use mathlib.Core.List.{List, [], ◌∷◌, ◌++◌}
use mathlib.Core.Logic.{◌≢◌}
use Prim.Native.Nat.{ℕ, ◌+◌, ◌-◌, ◌*◌, ◌^◌, ◌<◌, ◌≤◌}
use native.Mathlib.Omega.{arith}
use borrow.Author.Tests.{eqb-true, eq-eqb, ne_eqb}
use lib.ListN.{length, take, drop, length-drop}
use Rattle.text.specs.Truth.{either, every, between, first}
use Rattle.text.specs.Quoted.{is, equal, byte, decimal}
use Rattle.text.specs.Classes.{digit}
use Rattle.text.proofs.Truths.{never, both_true, between_true, fails, passes, pass, lastly}
use Rattle.text.proofs.Scan.{rest_of, paired_length}
use Rattle.text.proofs.Digits.{digit_bounds}
use Rattle.text.proofs.Decimal.{followed_append}
use Rattle.money.specs.Amount.{point_form, as_two_digits}

-- nothing, or a point and digits
abbrev pub fractional : List ℕ → Bool
fractional s = either (is "" s) (point_form s)

pub nothing : (s : List ℕ) → length s ≡ 0 → true ≡ fractional s
nothing [] e = refl
nothing (c ∷ s) e = never (omega arith)

pub something : (s : List ℕ) → length s ≢ 0 → fractional s ≡ point_form s
something s ne = rw (paired_length equal [] s (λ e. ne (sym e)))

module _ (s : List ℕ) (ne : length s ≢ 0) where
  pub no_point : first s ≢ byte "." → false ≡ fractional s
  unfolding point_form
  no_point h = sym (something s ne ∙ fails _ 0 (ne_eqb (first s) (byte ".") h))

  -- what `&s[1..]` holds is of one or two bytes, or not; and r is the test of its digits
  module _ (d : first s ≡ byte ".") {v : Bool} (e : v ≡ between 1 2 (length (take (length s - 1) (drop 1 s)))) where
    pub point_else : v ≡ false → v ≡ fractional s
    unfolding point_form
    point_else h =
        let b : between 1 2 (length (drop 1 s)) ≡ false = sym (ap (λ (l : List ℕ). between 1 2 (length l)) (rest_of 1 s)) ∙ sym e ∙ h in
        h ∙ sym (something s ne ∙ fails _ 1 b)

    pub point_then : v ≡ true → (r : Bool) → r ≡ every digit (take (length s - 1) (drop 1 s)) → r ≡ fractional s
    unfolding point_form
    point_then h r g =
        let b : between 1 2 (length (drop 1 s)) ≡ true = sym (ap (λ (l : List ℕ). between 1 2 (length l)) (rest_of 1 s)) ∙ sym e ∙ h in
        let t = pass (every digit (drop 1 s)) _ _ (eq-eqb (first s) (byte ".") d) (pass _ _ _ b (lastly _ _ refl)) in
        g ∙ ap (every digit) (rest_of 1 s) ∙ sym (something s ne ∙ t)

-- what the form of a point and digits tells
pub record Point (s : List ℕ) : Type 0 where
  pub start : first s ≡ byte "."
  pub low : 1 ≤ length (drop 1 s)
  pub high : length (drop 1 s) ≤ 2
  pub digits : every digit (drop 1 s) ≡ true

pub point : (s : List ℕ) → point_form s ≡ true → Point s
unfolding point_form
point s e =
    let h = between_true 1 2 (length (drop 1 s)) (passes _ e 1) in
    record { start = eqb-true (first s) (byte ".") (passes _ e 0); low = h.0; high = h.1; digits = passes _ e 2 }

-- w before the point and t behind it: one digit is tenths, and two are hundredths
pub joined : (w t : List ℕ) → length t ≤ 2 → decimal w * 100 + decimal (as_two_digits t) ≡ decimal (w ++ t) * 10 ^ (2 - length t)
unfolding decimal
joined w [] h = rw (followed_append 0 w []) (omega arith)
joined w (a ∷ []) h = rw (followed_append 0 w (a ∷ [])) (omega arith)
joined w (a ∷ b ∷ []) h = rw (followed_append 0 w (a ∷ b ∷ [])) (omega arith)
joined w (a ∷ b ∷ d ∷ t) h = omega arith

pub hundred : (t : List ℕ) → every digit t ≡ true → decimal (as_two_digits t) < 100
unfolding decimal
hundred [] e = omega arith
hundred (a ∷ []) e = omega (arith, digit_bounds a (both_true (digit a) true e).0)
hundred (a ∷ b ∷ t) e =
    let h = both_true (digit a) (every digit (b ∷ t)) e in
    omega (arith, digit_bounds a h.0, digit_bounds b (both_true (digit b) (every digit t) h.1).0)

-- ---- what the function answers
pub nothing_worth : (s : List ℕ) → length s ≡ 0 → (0 ≡ decimal (as_two_digits (drop 1 s))) × (0 < 100)
unfolding decimal
nothing_worth [] e = (refl, omega arith)
nothing_worth (c ∷ s) e = never (omega arith)

module _ (s : List ℕ) (form : fractional s ≡ true) (ne : length s ≢ 0) where
  formed : Point s
  formed = point s (sym (something s ne) ∙ form)

  -- what `&s[1..]` holds
  pub behind_point : (length (take (length s - 1) (drop 1 s)) ≤ 15) × (every digit (take (length s - 1) (drop 1 s)) ≡ true)
  behind_point = rw (rest_of 1 s) (omega (arith, formed), formed.digits)

  -- f is the number that it writes
  module _ (f : ℕ) (e : f ≡ decimal (take (length s - 1) (drop 1 s))) where
    worth : f * 10 ^ (2 - length (drop 1 s)) ≡ decimal (as_two_digits (drop 1 s))
    unfolding decimal
    worth = rw (e, rest_of 1 s) (omega (arith, joined [] (drop 1 s) formed.high))

    pub tenths : length s ≡ 2 → (f * 10 ≡ decimal (as_two_digits (drop 1 s))) × (f * 10 < 100)
    tenths h =
        let one : length (drop 1 s) ≡ 1 = omega (arith, length-drop 1 s) in
        let w : f * 10 ≡ decimal (as_two_digits (drop 1 s)) = rw one at worth in
        (w, omega (arith, hundred (drop 1 s) formed.digits))

    pub hundredths : length s ≢ 2 → (f ≡ decimal (as_two_digits (drop 1 s))) × (f < 100)
    hundredths h =
        let two : length (drop 1 s) ≡ 2 = omega (arith, length-drop 1 s, formed) in
        let w : f * 1 ≡ decimal (as_two_digits (drop 1 s)) = rw two at worth in
        omega (arith, hundred (drop 1 s) formed.digits)
