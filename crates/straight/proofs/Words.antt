-- Words that are the same number have the same bytes; and texts alike byte by byte lie whole.
use Rattle.std.proofs.Common.{◌≡◌, ℕ, zero, suc, ◌+◌, ◌-◌, ◌*◌, ◌<◌, ◌≤◌, List, ◌++◌, length, get_or, drop, sym, ap, ◌∙◌, add-zero, arith, length-drop, take-append-drop, length-take-le, get_or-drop, get_or-take, drop-drop, ext_get_or}
use native.Mathlib.Decide.{dec_lt}
use lib.Bits.{bit_or}
use Rattle.text.specs.Truth.{part}
use Rattle.swift_values.proofs.Blocks.{or_none}
use Rattle.straight.specs.Due.{Past}
use Rattle.straight.specs.Words.{half_at, word_at, Four, Eight, Match}

pub record Both (a b x y : ℕ) : Type 0 where
  pub low : a ≡ b
  pub high : x ≡ y

digit_same : (a b x y : ℕ) → a + 256 * x ≡ b + 256 * y → a < 256 → b < 256 → Both a b x y
digit_same a b x y e h g = record { low = omega arith; high = omega arith }

-- four bytes, and what stands above them
module _ (a0 a1 a2 a3 x b0 b1 b2 b3 y : ℕ) where
  pub record Same4 : Type 0 where
    pub e0 : a0 ≡ b0
    pub e1 : a1 ≡ b1
    pub e2 : a2 ≡ b2
    pub e3 : a3 ≡ b3
    pub rest : x ≡ y

  four_same : a0 + a1 * 256 + a2 * 65536 + a3 * 16777216 + x * 4294967296 ≡ b0 + b1 * 256 + b2 * 65536 + b3 * 16777216 + y * 4294967296
      → a0 < 256 → a1 < 256 → a2 < 256 → a3 < 256 → b0 < 256 → b1 < 256 → b2 < 256 → b3 < 256 → Same4
  four_same e p0 p1 p2 p3 q0 q1 q2 q3 =
      let z0 = digit_same a0 b0 (a1 + a2 * 256 + a3 * 65536 + x * 16777216) (b1 + b2 * 256 + b3 * 65536 + y * 16777216) (omega arith) p0 q0 in
      let z1 = digit_same a1 b1 (a2 + a3 * 256 + x * 65536) (b2 + b3 * 256 + y * 65536) (omega (arith, z0.high)) p1 q1 in
      let z2 = digit_same a2 b2 (a3 + x * 256) (b3 + y * 256) (omega (arith, z1.high)) p2 q2 in
      let z3 = digit_same a3 b3 x y (omega (arith, z2.high)) p3 q3 in
      record { e0 = z0.low; e1 = z1.low; e2 = z2.low; e3 = z3.low; rest = z3.high }

module _ (s : List ℕ) (p : ℕ) (t : List ℕ) (k : ℕ) where
  each4 : get_or s p 0 ≡ get_or t k 0 → get_or s (p + 1) 0 ≡ get_or t (k + 1) 0 → get_or s (p + 2) 0 ≡ get_or t (k + 2) 0 → get_or s (p + 3) 0 ≡ get_or t (k + 3) 0 → (j : ℕ) → j < 4 → get_or s (p + j) 0 ≡ get_or t (k + j) 0
  each4 e0 e1 e2 e3 zero h = rw (add-zero p, add-zero k) e0
  each4 e0 e1 e2 e3 (suc zero) h = e1
  each4 e0 e1 e2 e3 (suc (suc zero)) h = e2
  each4 e0 e1 e2 e3 (suc (suc (suc zero))) h = e3
  each4 e0 e1 e2 e3 (suc (suc (suc (suc j)))) h = absurd (let z : ⊥ = omega arith in z)

  match4 : get_or s p 0 ≡ get_or t k 0 → get_or s (p + 1) 0 ≡ get_or t (k + 1) 0 → get_or s (p + 2) 0 ≡ get_or t (k + 2) 0 → get_or s (p + 3) 0 ≡ get_or t (k + 3) 0 → Match s p t k 4
  match4 e0 e1 e2 e3 = record { each = each4 e0 e1 e2 e3 }

  pub half_same : half_at s p ≡ half_at t k → Four s p → Four t k → Match s p t k 4
  half_same e f g =
      let z = four_same (get_or s p 0) (get_or s (p + 1) 0) (get_or s (p + 2) 0) (get_or s (p + 3) 0) 0 (get_or t k 0) (get_or t (k + 1) 0) (get_or t (k + 2) 0) (get_or t (k + 3) 0) 0
      (omega arith) f.b0 f.b1 f.b2 f.b3 g.b0 g.b1 g.b2 g.b3 in
      match4 z.e0 z.e1 z.e2 z.e3

-- two that follow one another; and two that overlap
module _ (s : List ℕ) (p : ℕ) (t : List ℕ) (k : ℕ) where
  pub match_join : (n i l : ℕ) → Match s p t k i → Match s (p + n) t (k + n) l → n ≤ i → (r : ℕ) → r ≤ n + l → Match s p t k r
  match_join n i l f g h r w = record { each = joined }
    where
      joined : (j : ℕ) → j < r → get_or s (p + j) 0 ≡ get_or t (k + j) 0
      joined j q =
          elim (dec_lt j n) [
            | yes a ↦ f.each j (omega arith)
            | no a ↦
                let z : p + n + (j - n) ≡ p + j = omega arith in
                let y : k + n + (j - n) ≡ k + j = omega arith in
                ap (λ (x : ℕ). get_or s x 0) (sym z) ∙ g.each (j - n) (omega arith) ∙ ap (λ (x : ℕ). get_or t x 0) y
          ]

  pub match_none : Match s p t k 0
  match_none = record { each = λ j h. absurd (let z : ⊥ = omega arith in z) }

module _ (s : List ℕ) (p : ℕ) (t : List ℕ) (k : ℕ) where
  pub word_same : word_at s p ≡ word_at t k → Eight s p → Eight t k → Match s p t k 8
  word_same e f g =
      let z = four_same (get_or s p 0) (get_or s (p + 1) 0) (get_or s (p + 2) 0) (get_or s (p + 3) 0)
      (get_or s (p + 4) 0 + get_or s (p + 5) 0 * 256 + get_or s (p + 6) 0 * 65536 + get_or s (p + 7) 0 * 16777216)
      (get_or t k 0) (get_or t (k + 1) 0) (get_or t (k + 2) 0) (get_or t (k + 3) 0)
      (get_or t (k + 4) 0 + get_or t (k + 5) 0 * 256 + get_or t (k + 6) 0 * 65536 + get_or t (k + 7) 0 * 16777216)
      (omega arith) f.low.b0 f.low.b1 f.low.b2 f.low.b3 g.low.b0 g.low.b1 g.low.b2 g.low.b3 in
      let y = four_same (get_or s (p + 4) 0) (get_or s (p + 5) 0) (get_or s (p + 6) 0) (get_or s (p + 7) 0) 0
      (get_or t (k + 4) 0) (get_or t (k + 5) 0) (get_or t (k + 6) 0) (get_or t (k + 7) 0) 0
      (omega (arith, z.rest)) f.b4 f.b5 f.b6 f.b7 g.b4 g.b5 g.b6 g.b7 in
      match_join s p t k 4 4 4 (match4 s p t k z.e0 z.e1 z.e2 z.e3)
      (match4 s (p + 4) t (k + 4) y.e0 (via 1 y.e1) (via 2 y.e2) (via 3 y.e3)) (omega arith) 8 (omega arith)
    where
      via : (i : ℕ) → get_or s (p + (4 + i)) 0 ≡ get_or t (k + (4 + i)) 0 → get_or s (p + 4 + i) 0 ≡ get_or t (k + 4 + i) 0
      via i h =
          let a : p + 4 + i ≡ p + (4 + i) = omega arith in
          let b : k + 4 + i ≡ k + (4 + i) = omega arith in
          ap (λ (x : ℕ). get_or s x 0) a ∙ h ∙ ap (λ (x : ℕ). get_or t x 0) (sym b)

-- one byte more: d is what differed before, x what differs now
pub match_one : (s t : List ℕ) (p k i d x : ℕ) → (d ≡ 0 → Match s p t k i) → (x ≡ 0 → get_or s (p + i) 0 ≡ get_or t (k + i) 0) → bit_or d x ≡ 0 → Match s p t k (i + 1)
match_one s t p k i d x f g e = record { each = go }
  where
    go : (j : ℕ) → j < i + 1 → get_or s (p + j) 0 ≡ get_or t (k + j) 0
    go j h =
        elim (dec_lt j i) [
          | yes a ↦ (f (or_none d x e).0).each j a
          | no a ↦
              let z : j ≡ i = omega arith in
              rw z (g (or_none d x e).1)
        ]

-- what matches is the part, and stands there
module _ (s : List ℕ) (p : ℕ) (t : List ℕ) (k n : ℕ) (h : p + n ≤ length s) (g : k + n ≤ length t) where
  pub match_part : Match s p t k n → part p n s ≡ part k n t
  match_part f =
      ext_get_or 0 (part p n s) (part k n t) (long s p h ∙ sym (long t k g))
      (λ i q. let w : i < n = omega (arith, long s p h) in
      byte s p i w ∙ f.each i w ∙ sym (byte t k i w))
    where
      long : (u : List ℕ) (q : ℕ) → q + n ≤ length u → length (part q n u) ≡ n
      long u q b = length-take-le n (drop q u) (omega (arith, length-drop q u))

      byte : (u : List ℕ) (q i : ℕ) → i < n → get_or (part q n u) i 0 ≡ get_or u (q + i) 0
      byte u q i w = get_or-take n (drop q u) i 0 w ∙ get_or-drop q u i 0

  pub match_stands : Match s p t k n → drop p s ≡ part k n t ++ drop (p + n) s
  match_stands f =
      sym (take-append-drop n (drop p s)) ∙ ap (λ (x : List ℕ). x ++ drop n (drop p s)) (match_part f)
      ∙ ap (λ (x : List ℕ). part k n t ++ x) (drop-drop n p s)

-- two words, and two halves, that may overlap
module _ (s : List ℕ) (p : ℕ) (t : List ℕ) (k n : ℕ) where
  pub mid_same : 8 ≤ n → n ≤ 16 → (a b c d : ℕ) → (a ≡ word_at s p) × Eight s p → (b ≡ word_at t k) × Eight t k
      → (c ≡ word_at s (p + (n - 8))) × Eight s (p + (n - 8)) → (d ≡ word_at t (k + (n - 8))) × Eight t (k + (n - 8)) → a ≡ b → c ≡ d → Match s p t k n
  mid_same h g a b c d e0 e1 e2 e3 x y =
      match_join s p t k (n - 8) 8 8 (word_same s p t k (sym e0.0 ∙ x ∙ e1.0) e0.1 e1.1)
      (word_same s (p + (n - 8)) t (k + (n - 8)) (sym e2.0 ∙ y ∙ e3.0) e2.1 e3.1) (omega arith) n (omega arith)

  pub short_same : 4 ≤ n → n ≤ 8 → (a b c d : ℕ) → (a ≡ half_at s p) × Four s p → (b ≡ half_at t k) × Four t k
      → (c ≡ half_at s (p + (n - 4))) × Four s (p + (n - 4)) → (d ≡ half_at t (k + (n - 4))) × Four t (k + (n - 4)) → a ≡ b → c ≡ d → Match s p t k n
  short_same h g a b c d e0 e1 e2 e3 x y =
      match_join s p t k (n - 4) 4 4 (half_same s p t k (sym e0.0 ∙ x ∙ e1.0) e0.1 e1.1)
      (half_same s (p + (n - 4)) t (k + (n - 4)) (sym e2.0 ∙ y ∙ e3.0) e2.1 e3.1) (omega arith) n (omega arith)

-- a text that stands
pub past_here : (m : List ℕ) (p : ℕ) (t : List ℕ) (k n : ℕ) → 0 < p → p + n ≤ length m → k + n ≤ length t → Match m p t k n → Past m p (part k n t) (p + n)
past_here m p t k n a h g f =
    record {
      some = a;
      within = h;
      place = ap (λ (x : ℕ). p + x) (sym (length-take-le n (drop k t) (omega (arith, length-drop k t))));
      stands = match_stands m p t k n h g f;
    }
