-- The plain search: each value against all before it.
use Rattle.std.proofs.Common.{◌≡◌, ℕ, zero, suc, ◌+◌, ◌<◌, ◌≤◌, true, false, List, length, take, drop, refl, sym, ◌∙◌, add-one, arith, drop_of_length-le, length-take-le, get_or-take, take-suc, ne_eqb}
use Rattle.std.specs.Prelude.{Some}
use Rattle.text.specs.Truth.{either, at}
use Rattle.text.specs.Quoted.{alike}
use Rattle.text.proofs.Scan.{next}
use Rattle.tags.specs.Values.{value_at}
use Rattle.twice.specs.Twice.{stands_among, second_from, second, if_any}

-- a place that is one
pub some_place : (p : ℕ) → (p ≡ 0 → ⊥) → Some p ≡ if_any p
some_place zero h = absurd (h refl)
some_place (suc p) h = refl

-- ---- one place more or the last: what the search from item i on gives
module _ (m places : List ℕ) (i : ℕ) where
  pub second_end : length places ≤ i → second_from m (take i places) (drop i places) ≡ 0
  second_end h = rw (drop_of_length-le places {i = i} h)

  module _ (h : i < length places) where
    pub second_zero : at places i ≡ 0 → second_from m (take i places) (drop i places) ≡ 0
    second_zero e = rw (next places i h, e)

    module _ (ne : at places i ≡ 0 → ⊥) where
      pub second_here : stands_among m (value_at m (at places i)) (take i places) ≡ true
          → second_from m (take i places) (drop i places) ≡ at places i
      second_here e = rw (next places i h, ne_eqb (at places i) 0 ne, e)

      pub second_later : stands_among m (value_at m (at places i)) (take i places) ≡ false
          → second_from m (take i places) (drop i places) ≡ second_from m (take (i + 1) places) (drop (i + 1) places)
      second_later e = rw (next places i h, ne_eqb (at places i) 0 ne, e, add-one i, take-suc places i 0 h)

-- ---- whether a value stands among the places before item i, of which j are passed
module _ (m v places : List ℕ) (i j : ℕ) (w : i ≤ length places) where
  among_next : j < i → stands_among m v (drop j (take i places)) ≡ either (alike (value_at m (at places j)) v) (stands_among m v (drop (j + 1) (take i places)))
  among_next h =
      let g : j < length (take i places) = omega (arith, length-take-le i places w) in
      rw (next (take i places) j g, get_or-take i places j 0 h)

  pub among_here : j < i → alike (value_at m (at places j)) v ≡ true → stands_among m v (drop j (take i places)) ≡ true
  among_here h e = among_next h ∙ rw e

  pub among_later : j < i → alike (value_at m (at places j)) v ≡ false → stands_among m v (drop j (take i places)) ≡ stands_among m v (drop (j + 1) (take i places))
  among_later h e = among_next h ∙ rw e

  pub among_end : i ≤ j → stands_among m v (drop j (take i places)) ≡ false
  among_end h = rw (drop_of_length-le (take i places) {i = j} (omega (arith, length-take-le i places w)))

-- ---- item i, whose value is v, after j comparisons
module _ (m places v : List ℕ) (i j : ℕ) (h : i < length places) (ne : at places i ≡ 0 → ⊥) (is : v ≡ value_at m (at places i))
    (all : second_from m (take i places) (drop i places) ≡ second m places)
    (passed : stands_among m v (drop j (take i places)) ≡ stands_among m v (take i places)) where
  pub pair_here : j < i → alike (value_at m (at places j)) v ≡ true → at places i ≡ second m places
  pair_here g e =
      let y : stands_among m (value_at m (at places i)) (take i places) ≡ true = rw (← is) (sym passed ∙ among_here m v places i j (omega arith) g e) in
      sym (second_here m places i h ne y) ∙ all

  pub pair_none : i ≤ j → second_from m (take (i + 1) places) (drop (i + 1) places) ≡ second m places
  pair_none g =
      let y : stands_among m (value_at m (at places i)) (take i places) ≡ false = rw (← is) (sym passed ∙ among_end m v places i j (omega arith) g) in
      sym (second_later m places i h ne y) ∙ all
