-- A way that was gone once is gone again where the same bytes stand.
use Rattle.std.proofs.Common.{◌≡◌, ℕ, ◌+◌, ◌-◌, ◌<◌, ◌≤◌, Bool, true, false, eqb, List, [], ◌∷◌, ◌++◌, length, get_or, take, drop, sym, ap, ◌∙◌, add-zero, add_assoc, arith, length-drop, length-take-le, eqb-true}
use lib.Seq.{take-append_seam}
use Rattle.text.specs.Truth.{every, lead, part}
use Rattle.text.proofs.Truths.{never}
use Rattle.text.proofs.Scan.{lead_every}
use Rattle.answers.specs.Given.{Given}
use Rattle.tags.specs.Values.{in_value}
use Rattle.profile.specs.declared.Kind.{Kind}
use Rattle.kinds.specs.Given.{kind_given}
use Rattle.swift_values.specs.Stands.{StandsFor}
use Rattle.swift_values.proofs.Values.{value_ends}
use Rattle.straight.specs.Due.{Token, tight, spaced, flat}
use Rattle.straight.specs.Words.{Match}
use Rattle.straight.specs.Spelled.{spells}
use Rattle.straight.specs.Ways.{Leg, tags, holds, told, Opens, Passed, Held, Way, lifted}
use Rattle.straight.proofs.Words.{match_stands}
use Rattle.straight.proofs.Ways.{lt_behind}

-- ---- the same bytes at two places
module _ (m : List ℕ) where
  within : (p q n o k : ℕ) → Match m p m q n → o + k ≤ n → Match m (p + o) m (q + o) k
  within p q n o k h g = record { each = λ j l. ap (λ (x : ℕ). get_or m x 0) (add_assoc p o j) ∙ h.each (o + j) (omega arith) ∙ ap (λ (x : ℕ). get_or m x 0) (sym (add_assoc q o j)) }

  same-part : (p q n : ℕ) → p + n ≤ length m → q + n ≤ length m → Match m p m q n → part p n m ≡ part q n m
  same-part p q n h g f =
      let e : drop p m ≡ part q n m ++ drop (p + n) m = match_stands m p m q n h g f in
      let l : length (part q n m) ≡ n = length-take-le n (drop q m) (omega (arith, length-drop q m)) in
      ap (λ (k : ℕ). take k (drop p m)) (sym l) ∙ ap (take (length (part q n m))) e ∙ take-append_seam (part q n m) (drop (p + n) m)

  first-same : (p q n : ℕ) → Match m p m q n → 0 < n → get_or m p 0 ≡ get_or m q 0
  first-same p q n f h = ap (λ (k : ℕ). get_or m k 0) (sym (add-zero p)) ∙ f.each 0 h ∙ ap (λ (k : ℕ). get_or m k 0) (add-zero q)

  -- a run
  opens-again : (p q n : ℕ) (ts : List Token) → Match m p m q n → 0 < n → Opens ts m q → Opens ts m p
  opens-again p q n [] f h o = tt
  opens-again p q n (tight t ∷ ts) f h o = ap (λ (k : ℕ). eqb k 60) (first-same p q n f h) ∙ o
  opens-again p q n (spaced t ∷ ts) f h o = tt

  passed-again : (p q k : ℕ) (ts : List Token) → 0 < p → p + k ≤ length m → Match m p m q k → Passed m q ts (q + k) → Passed m p ts (p + k)
  passed-again p q k ts s h f w =
      let x : p + k - p ≡ k = omega arith in
      let y : q + k - q ≡ k = omega arith in
      let e : part p (p + k - p) m ≡ part q (q + k - q) m = ap (λ (z : ℕ). part p z m) x ∙ same-part p q k h w.spelled.within f ∙ ap (λ (z : ℕ). part q z m) (sym y) in
      record {
        spelled = record { some = s; from = omega (arith, w.spelled.from); within = h; spelt = ap (λ (z : List ℕ). spells z (flat ts)) e ∙ w.spelled.spelt };
        tagged = w.tagged;
        opens = opens-again p q k ts f (omega (arith, w.spelled.from)) w.opens;
      }

  -- a value, with the `<` behind it
  stands_again : (p q k : ℕ) (j : Kind) (g : Given) → 0 < p → p + k < length m → Match m p m q (k + 1) → StandsFor j g m q (q + k) → StandsFor j g m p (p + k)
  stands_again p q k j g s h f w =
      let x : p + k - p ≡ k = omega arith in
      let y : q + k - q ≡ k = omega arith in
      let c = within p q (k + 1) 0 k f (omega arith) in
      let d : Match m p m q k = record { each = λ i l. f.each i (omega arith) } in
      let e : part p k m ≡ part q k m = same-part p q k (omega arith) (omega (arith, w.behind)) d in
      let u : lead in_value (drop q m) ≡ k = w.upto ∙ y in
      let v : every in_value (part q k m) ≡ true = ap (λ (z : ℕ). every in_value (take z (drop q m))) (sym u) ∙ lead_every in_value (drop q m) in
      let t : get_or m (p + k) 0 ≡ 60 = f.each k (omega arith) ∙ eqb-true (get_or m (q + k) 0) 60 (lt_behind m j g q (q + k) w) in
      record {
        some = s;
        from = omega arith;
        behind = h;
        upto = value_ends m p k h (ap (every in_value) e ∙ v) t ∙ sym x;
        given = ap (λ (z : ℕ). kind_given j (part p z m)) x ∙ ap (kind_given j) e ∙ ap (λ (z : ℕ). kind_given j (part q z m)) (sym y) ∙ w.given;
      }

  held-again : (p q k : ℕ) (j : Kind) (d : ℕ) → 0 < p → p + k < length m → Match m p m q (k + 1) → Held j d m q (q + k) → Held j d m p (p + k)
  held-again p q k j d s h f w = record { found = w.found; stands = stands_again p q k j (told j w.found) s h f w.stands; noted = w.noted }

  -- a way goes forward
  pub way_le : (ls : List Leg) (p r : ℕ) → Way m p ls r → p ≤ r
  way_le [] p r w = omega (arith, w)
  way_le (tags ts ∷ ls) p r w = omega (arith, w.first.spelled.from, way_le ls w.place r w.rest)
  way_le (holds k f a d ∷ ls) p r w = omega (arith, w.1.first.stands.from, way_le ls w.1.place r w.1.rest)

-- legs in which a run stands behind each value
abbrev pub followed : List Leg → Bool
followed [] = true
followed (tags ts ∷ ls) = followed ls
followed (holds k f a d ∷ []) = false
followed (holds k f a d ∷ tags ts ∷ ls) = followed ls
followed (holds k f a d ∷ holds j g b e ∷ ls) = false

module _ (m : List ℕ) (p q n : ℕ) (some : 0 < p) (fits : p + n ≤ length m) (same : Match m p m q n) where
  -- k bytes from the place o on
  piece : (o k : ℕ) → o + k ≤ n → Match m (p + o) m (q + o) k
  piece o k h = within m p q n o k same h

  tags-again : (us : List Token) (ks : List Leg) (i x : ℕ) → Passed m (q + i) us x → x ≤ q + n → ((k : ℕ) → x ≡ q + k → Way m (p + k) (lifted p ks) (p + n))
      → Way m (p + i) (tags us ∷ lifted p ks) (p + n)
  tags-again us ks i x h l f =
      let k = x - q in
      let e : x ≡ q + k = omega (arith, h.spelled.from) in
      let y : x ≡ q + i + (k - i) = omega (arith, h.spelled.from) in
      let z : p + i + (k - i) ≡ p + k = omega (arith, h.spelled.from) in
      let w : Passed m (q + i) us (q + i + (k - i)) = rw y at h in
      let b = passed-again m (p + i) (q + i) (k - i) us (omega arith) (omega (arith, h.spelled.from)) (piece i (k - i) (omega (arith, h.spelled.from))) w in
      record { place = p + k; first = rw z at b; rest = f k e }

  pub way_again : (ls : List Leg) (o : ℕ) → followed ls ≡ true → Way m (q + o) (lifted q ls) (q + n) → Way m (p + o) (lifted p ls) (p + n)
  way_again [] o g w = omega (arith, w)
  way_again (tags ts ∷ ls) o g w =
      tags-again ts ls o w.place w.first (way_le m (lifted q ls) w.place (q + n) w.rest) (λ k e. way_again ls k g (rw e at w.rest))
  way_again (holds k f a d ∷ []) o g w = never (cc)
  way_again (holds k f a d ∷ holds j i b e ∷ ls) o g w = never (cc)
  way_again (holds k f a d ∷ tags ts ∷ ls) o g w =
      let x = w.1.place in
      let h = w.1.first in
      let t = w.1.rest in
      let c = x - q in
      let l = way_le m (lifted q ls) t.place (q + n) t.rest in
      let e : x ≡ q + c = omega (arith, h.stands.from) in
      let y : x ≡ q + o + (c - o) = omega (arith, h.stands.from) in
      let z : p + o + (c - o) ≡ p + c = omega (arith, h.stands.from) in
      let v : Held k d m (q + o) (q + o + (c - o)) = rw y at h in
      let u = held-again m (p + o) (q + o) (c - o) k d (omega arith) (omega (arith, h.stands.from, t.first.spelled.from, l))
      (piece o (c - o + 1) (omega (arith, h.stands.from, t.first.spelled.from, l))) v in
      (omega (arith, w.0), record { place = p + c; first = rw z at u; rest = tags-again ts ls c t.place (rw e at t.first) l (λ i r. way_again ls i g (rw r at t.rest)) })
