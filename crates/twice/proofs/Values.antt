-- The value at a place, and how it is compared with other bytes: first where it ends, then the bytes.
use Rattle.std.proofs.Common.{◌≡◌, ℕ, suc, ◌+◌, ◌<◌, Bool, true, false, not, eqb, leb, List, [], ◌∷◌, length, get_or, take, drop, sym, refl, ◌∙◌, arith, drop_of_length-le, length-take-le, ext_get_or, eqb-true, le-leb, leb-true}
use borrow.Author.Tests.{not-true, not-false, lt-leb}
use lib.Dec.{leb-zero, leb-suc-zero, leb-suc-suc, eqb-suc-zero}
use Rattle.text.specs.Truth.{both, pick, every, lead}
use Rattle.text.specs.Quoted.{alike, byte, equal}
use Rattle.text.proofs.Truths.{both_true, both_false}
use Rattle.text.proofs.Scan.{next, lead_le, lead_every, paired_same_length, paired_at}
use Rattle.tags.specs.Values.{in_value, value_at}
use Rattle.twice.specs.Engine.{ends_at}

-- bytes that are alike are equal
pub alike_equal : (t s : List ℕ) → alike t s ≡ true → t ≡ s
alike_equal t s e =
    ext_get_or 0 t s (paired_same_length equal t s e) (λ i h. sym (eqb-true (get_or s i 0) (get_or t i 0) (paired_at equal t s e i h)))

-- ---- what the code cuts out of a message
pub nothing_left : (m : List ℕ) (p from : ℕ) → from ≡ p → length m < from → [] ≡ drop p m
nothing_left m p from e h = sym (drop_of_length-le m {i = p} (omega arith))

pub value_long : (s : List ℕ) (n : ℕ) → n ≡ lead in_value s → n ≡ length (take n s)
value_long s n e = sym (length-take-le n s (omega (arith, lead_le in_value s)))

pub value_is : (m s : List ℕ) (p n : ℕ) → s ≡ drop p m → n ≡ lead in_value s → take n s ≡ value_at m p
value_is m s p n e f = rw (f, e)

-- no `<` stands in a value
pub value_clean : (m v : List ℕ) (p : ℕ) → v ≡ value_at m p → every in_value v ≡ true
value_clean m v p e = rw e (lead_every in_value (drop p m))

-- ---- whether a value of n bytes ends there
module _ (s : List ℕ) (n : ℕ) where
  pub ends_short : length s < n → false ≡ ends_at s n
  unfolding ends_at
  ends_short h = rw (lt-leb n (length s) h)

  pub ends_last : length s ≡ n → true ≡ ends_at s n
  unfolding ends_at
  ends_last h = rw (le-leb n (length s) (omega arith), drop_of_length-le s {i = n} (omega arith))

  pub ends_next : n < length s → eqb (get_or s n 0) (byte "<") ≡ ends_at s n
  unfolding ends_at
  ends_next h = rw (le-leb n (length s) (omega arith), next s n h) (go (eqb (get_or s n 0) (byte "<")))
    where
      go : (b : Bool) → b ≡ eqb (pick (not b) (suc (lead in_value (drop (n + 1) s))) 0) 0
      go true = refl
      go false = sym (eqb-suc-zero (lead in_value (drop (n + 1) s)))

  pub ends_long : ends_at s n ≡ true → n ≡ length (take n s)
  unfolding ends_at
  ends_long e = sym (length-take-le n s (leb-true n (length s) (both_true (leb n (length s)) (eqb (lead in_value (drop n s)) 0) e).0))

both_turned : (a b c : Bool) → both a (both b c) ≡ both b (both a c)
both_turned true b c = refl
both_turned false b c = sym (both_false b)

-- the value that stands first is v exactly where it ends with v's length and has v's bytes
same_value : (s v : List ℕ) → every in_value v ≡ true → alike (take (lead in_value s) s) v ≡ both (ends_at s (length v)) (alike (take (length v) s) v)
unfolding ends_at
same_value [] [] h = refl
same_value [] (d ∷ v) h = rw (leb-suc-zero (length v))
same_value (c ∷ s) [] h = rw (leb-zero (suc (length s))) (go (in_value c))
  where
    go : (b : Bool) → alike (take (pick b (suc (lead in_value s)) 0) (c ∷ s)) [] ≡ both (eqb (pick b (suc (lead in_value s)) 0) 0) true
    go true = rw (eqb-suc-zero (lead in_value s))
    go false = refl
same_value (c ∷ s) (d ∷ v) h =
    let x = both_true (in_value d) (every in_value v) h in
    rw (leb-suc-suc (length v) (length s))
    (go (both (leb (length v) (length s)) (eqb (lead in_value (drop (length v) s)) 0)) (alike (take (length v) s) v) (in_value c) refl x.0 (same_value s v x.1))
  where
    go : (E A b : Bool) → in_value c ≡ b → in_value d ≡ true → alike (take (lead in_value s) s) v ≡ both E A
        → alike (take (pick b (suc (lead in_value s)) 0) (c ∷ s)) (d ∷ v) ≡ both E (both (equal c d) A)
    go E A true e f i = rw i (both_turned (equal c d) E A)
    go E A false e f i =
        let x : c ≡ byte "<" = eqb-true c (byte "<") (not-false (eqb c (byte "<")) e) in
        let y : eqb d c ≡ false = rw x (not-true (eqb d (byte "<")) f) in
        sym (rw y (both_false E))

-- what the code answers
module _ (m s v : List ℕ) (p : ℕ) (at : s ≡ drop p m) (clean : every in_value v ≡ true) where
  pub holds_not : (b : Bool) → b ≡ ends_at s (length v) → b ≡ false → false ≡ alike (value_at m p) v
  holds_not b e f = sym (rw (← at) (same_value s v clean ∙ rw (← e, f)))

  pub holds_same : (b r : Bool) → b ≡ ends_at s (length v) → b ≡ true → r ≡ alike (take (length v) s) v → r ≡ alike (value_at m p) v
  holds_same b r e f g = g ∙ sym (rw (← at) (same_value s v clean ∙ rw (← e, f)))
