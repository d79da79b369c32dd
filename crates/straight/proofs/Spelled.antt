-- A run that a message spells leads where it leads; and how a loop spells it byte by byte.
use Rattle.std.proofs.Common.{◌≡◌, ℕ, zero, suc, ◌+◌, ◌-◌, ◌*◌, ◌/◌, ◌%◌, ◌^◌, ◌<◌, ◌≤◌, Bool, true, false, not, eqb, List, [], ◌∷◌, ◌++◌, length, get_or, take, drop, sym, refl, ap, ◌∙◌, append_assoc, append-nil, add-zero, mul_assoc, arith, length-append, length-drop, take-append-drop, drop_of_length-le, length-take-le, get_or-take, drop-drop, take-add, pow-add, eq-eqb, eqb-true}
use native.Mathlib.Nat.{pow-succ'}
use lib.Count.{count_trailing_zeros, under, trailing_le}
use lib.Seq.{take-append_seam, drop-append_seam}
use Rattle.text.specs.Truth.{both, pick, every, lead, part, first}
use Rattle.text.proofs.Truths.{never, both_true}
use Rattle.text.proofs.Scan.{next, rest_of, first_of_rest, lead_before, lead_every}
use Rattle.tags.specs.Tags.{white}
use Rattle.straight.specs.Due.{Token, tight, spaced, flat, Leads, Past, Went}
use Rattle.straight.specs.Spelled.{spells, tagged, loose, is_tag, solid, Spelled, Onto}
use Rattle.straight.specs.Words.{word_at, Eight, Match}
use Rattle.straight.proofs.Walks.{leads_none, leads_on, steps_spaced, steps_tight}
use Rattle.straight.proofs.Words.{Both, match_part}

-- ---- one byte more
same_byte : (c : ℕ) (s t : List ℕ) → spells s t ≡ true → spells (c ∷ s) (c ∷ t) ≡ true
unfolding white
same_byte c s t h = go (eqb c 60) refl
  where
    other : pick false (spells s (c ∷ t)) (both (eqb c c) (spells s t)) ≡ true
    other = rw (eq-eqb c c refl) h

    go : (b : Bool) → eqb c 60 ≡ b → spells (c ∷ s) (c ∷ t) ≡ true
    go true e = rw (e, eqb-true c 60 e) h
    go false e = rw e other

blank_byte : (b : ℕ) (s t : List ℕ) → white b ≡ true → spells s (60 ∷ t) ≡ true → spells (b ∷ s) (60 ∷ t) ≡ true
blank_byte b s t w h = rw w h

blanks : (b s t : List ℕ) → every white b ≡ true → spells s (60 ∷ t) ≡ true → spells (b ++ s) (60 ∷ t) ≡ true
blanks [] s t w h = h
blanks (c ∷ b) s t w h =
    let z = both_true (white c) (every white b) w in
    blank_byte c (b ++ s) t z.0 (blanks b s t z.1 h)

-- ---- the first tag of a run that is spelled: what stands before it, and what follows
pub record Split (u rest s : List ℕ) : Type 0 where
  pub blank : List ℕ
  pub tail : List ℕ
  pub all : s ≡ blank ++ ((60 ∷ u) ++ tail)
  pub white : every white blank ≡ true
  pub spelt : spells tail rest ≡ true

pub record Solid (u rest s : List ℕ) : Type 0 where
  pub tail : List ℕ
  pub all : s ≡ u ++ tail
  pub spelt : spells tail rest ≡ true

solid_on : (u rest s : List ℕ) → solid u ≡ true → spells s (u ++ rest) ≡ true → Solid u rest s
solid_on [] rest s n h = record { tail = s; all = refl; spelt = h }
solid_on (c ∷ u) rest [] n h = never (cc)
solid_on (c ∷ u) rest (b ∷ s) n h =
    let z = both_true (not (eqb c 60)) (solid u) n in
    let y : both (eqb b c) (spells s (u ++ rest)) ≡ true = no_lt (eqb c 60) z.0 h in
    let x = both_true (eqb b c) (spells s (u ++ rest)) y in
    let r = solid_on u rest s z.1 x.1 in
    record { tail = r.tail; all = ap (λ (k : ℕ). k ∷ s) (eqb-true b c x.0) ∙ ap (λ (k : List ℕ). c ∷ k) r.all; spelt = r.spelt }
  where
    no_lt : (e : Bool) → not e ≡ true → pick (both e (white b)) (spells s (c ∷ (u ++ rest))) (both (eqb b c) (spells s (u ++ rest))) ≡ true → both (eqb b c) (spells s (u ++ rest)) ≡ true
    no_lt false f g = g
    no_lt true f g = never (cc)

split_on : (u rest s : List ℕ) → solid u ≡ true → spells s (60 ∷ (u ++ rest)) ≡ true → Split u rest s
split_on u rest [] n h = never (cc)
split_on u rest (b ∷ s) n h = go (white b) refl h (split_on u rest s n)
  where
    go : (w : Bool) → white b ≡ w → pick w (spells s (60 ∷ (u ++ rest))) (both (eqb b 60) (spells s (u ++ rest))) ≡ true
        → (spells s (60 ∷ (u ++ rest)) ≡ true → Split u rest s) → Split u rest (b ∷ s)
    go true e g k =
        let r = k g in
        record { blank = b ∷ r.blank; tail = r.tail; all = ap (λ (x : List ℕ). b ∷ x) r.all; white = rw e r.white; spelt = r.spelt }
    go false e g k =
        let x = both_true (eqb b 60) (spells s (u ++ rest)) g in
        let r = solid_on u rest s n x.1 in
        record { blank = []; tail = r.tail; all = ap (λ (k : ℕ). k ∷ s) (eqb-true b 60 x.0) ∙ ap (λ (k : List ℕ). 60 ∷ k) r.all; white = refl; spelt = r.spelt }

no_blank : (u rest s : List ℕ) → solid u ≡ true → eqb (first s) 60 ≡ true → spells s (60 ∷ (u ++ rest)) ≡ true → Solid (60 ∷ u) rest s
unfolding white
no_blank u rest [] n o h = never (cc)
no_blank u rest (b ∷ s) n o h =
    let e : b ≡ 60 = eqb-true b 60 o in
    let g : spells (60 ∷ s) (60 ∷ (u ++ rest)) ≡ true = sym (ap (λ (k : ℕ). spells (k ∷ s) (60 ∷ (u ++ rest))) e) ∙ h in
    let r = solid_on u rest s n (both_true (eqb 60 60) (spells s (u ++ rest)) g).1 in
    record { tail = r.tail; all = ap (λ (k : ℕ). k ∷ s) e ∙ ap (λ (k : List ℕ). 60 ∷ k) r.all; spelt = r.spelt }

all_of : (b u v z s : List ℕ) → s ≡ b ++ ((60 ∷ u) ++ v) → s ++ z ≡ b ++ ((60 ∷ u) ++ (v ++ z))
all_of b u v z s e = ap (λ (k : List ℕ). k ++ z) e ∙ append_assoc b ((60 ∷ u) ++ v) z ∙ ap (λ (k : List ℕ). b ++ k) (append_assoc (60 ∷ u) v z)

-- ---- where it leads
module _ (m : List ℕ) where
  behind : (p : ℕ) (a b : List ℕ) → drop p m ≡ a ++ b → drop (p + length a) m ≡ b
  behind p a b e = sym (drop-drop (length a) p m) ∙ ap (drop (length a)) e ∙ drop-append_seam a b

  pub loose_leads : (ts : List Token) (p : ℕ) (s z : List ℕ) → drop p m ≡ s ++ z → spells s (flat ts) ≡ true → loose ts ≡ true → Leads m p ts (p + length s)
  unfolding white
  loose_leads [] p [] z e h g = rw (add-zero p) (leads_none m p)
  loose_leads [] p (b ∷ s) z e h g = never (cc)
  loose_leads (tight t ∷ ts) p s z e h g = never (cc)
  loose_leads (spaced [] ∷ ts) p s z e h g = never (cc)
  loose_leads (spaced (c ∷ u) ∷ ts) p s z e h g =
      let x = both_true (is_tag (c ∷ u)) (loose ts) g in
      let y = both_true (eqb c 60) (solid u) x.0 in
      let i : c ≡ 60 = eqb-true c 60 y.0 in
      let r = split_on u (flat ts) s y.1 (rw (← i) h) in
      let b = r.blank in
      let v = r.tail in
      let t : List ℕ = c ∷ u in
      let d : drop p m ≡ b ++ (t ++ (v ++ z)) = e ∙ all_of b u v z s r.all ∙ ap (λ (k : ℕ). b ++ ((k ∷ u) ++ (v ++ z))) (sym i) in
      let w : length b ≡ lead white (drop p m) = sym (ap (lead white) (d ∙ ap (λ (k : ℕ). b ++ ((k ∷ u) ++ (v ++ z))) i) ∙ lead_before white b 60 (u ++ (v ++ z)) r.white refl) in
      let q = p + length b in
      let f : drop q m ≡ t ++ (v ++ z) = behind p b (t ++ (v ++ z)) d in
      let n : q + length t + length v ≡ p + length s = omega (arith, ap length r.all, length-append b ((60 ∷ u) ++ v), length-append (60 ∷ u) v) in
      rw (← n) (leads_on m p (q + length t) (q + length t + length v) (spaced t) ts (steps_spaced m p t (v ++ z) q (ap (λ (k : ℕ). p + k) w) f)
      (loose_leads ts (q + length t) v z (behind q t (v ++ z) f) r.spelt x.1))

  pub spelled_leads : (ts : List Token) (p : ℕ) (s z : List ℕ) → drop p m ≡ s ++ z → spells s (flat ts) ≡ true → tagged ts ≡ true → eqb (first s) 60 ≡ true → Leads m p ts (p + length s)
  spelled_leads [] p s z e h g o = loose_leads [] p s z e h refl
  spelled_leads (spaced t ∷ ts) p s z e h g o = loose_leads (spaced t ∷ ts) p s z e h g
  spelled_leads (tight [] ∷ ts) p s z e h g o = never (cc)
  spelled_leads (tight (c ∷ u) ∷ ts) p s z e h g o =
      let x = both_true (is_tag (c ∷ u)) (loose ts) g in
      let y = both_true (eqb c 60) (solid u) x.0 in
      let i : c ≡ 60 = eqb-true c 60 y.0 in
      let r = no_blank u (flat ts) s y.1 o (rw (← i) h) in
      let v = r.tail in
      let t : List ℕ = c ∷ u in
      let d : drop p m ≡ t ++ (v ++ z) = e ∙ all_of [] u v z s r.all ∙ ap (λ (k : ℕ). (k ∷ u) ++ (v ++ z)) (sym i) in
      let n : p + length t + length v ≡ p + length s = omega (arith, ap length r.all, length-append (60 ∷ u) v) in
      rw (← n) (leads_on m p (p + length t) (p + length t + length v) (tight t) ts (steps_tight m p t (v ++ z) d)
      (loose_leads ts (p + length t) v z (behind p t (v ++ z) d) r.spelt x.1))

-- ---- a run that stands, and one that a message spells
pub went_spelled : (m : List ℕ) (p : ℕ) (ts : List Token) (r : ℕ) → tagged ts ≡ true → eqb (get_or m p 0) 60 ≡ true → Spelled m p (flat ts) r → Went m p ts r
went_spelled m p ts r g o h =
    let s = part p (r - p) m in
    let n : length s ≡ r - p = length-take-le (r - p) (drop p m) (omega (arith, length-drop p m, h.from, h.within)) in
    let e : drop p m ≡ s ++ drop (r - p) (drop p m) = sym (take-append-drop (r - p) (drop p m)) in
    let z : p + length s ≡ r = omega (arith, n, h.from) in
    let f : get_or s 0 0 ≡ get_or m p 0 = get_or-take (r - p) (drop p m) 0 0 (omega (arith, h.from)) ∙ first_of_rest m p in
    record { some = h.some; within = h.within; leads = rw (← z) (spelled_leads m ts p s (drop (r - p) (drop p m)) e h.spelt g (ap (λ (k : ℕ). eqb k 60) f ∙ o)) }

-- the same where a run begins with white space or none
pub went_loose : (m : List ℕ) (p : ℕ) (ts : List Token) (r : ℕ) → loose ts ≡ true → Spelled m p (flat ts) r → Went m p ts r
went_loose m p ts r g h =
    let s = part p (r - p) m in
    let n : length s ≡ r - p = length-take-le (r - p) (drop p m) (omega (arith, length-drop p m, h.from, h.within)) in
    let e : drop p m ≡ s ++ drop (r - p) (drop p m) = sym (take-append-drop (r - p) (drop p m)) in
    let z : p + length s ≡ r = omega (arith, n, h.from) in
    record { some = h.some; within = h.within; leads = rw (← z) (loose_leads m ts p s (drop (r - p) (drop p m)) e h.spelt g) }

-- ---- the ways in which a run is spelled: as it is written, as at another place, or byte by byte
module _ (m : List ℕ) (p : ℕ) where
  pub past_part : (t : List ℕ) (r : ℕ) → Past m p t r → part p (r - p) m ≡ t
  past_part t r h =
      let n : r - p ≡ length t = omega (arith, h.place) in
      ap (λ (k : ℕ). take k (drop p m)) n ∙ ap (take (length t)) h.stands ∙ take-append_seam t (drop r m)

  pub spelled_again : (t : List ℕ) (q n r : ℕ) → Spelled m q t (q + n) → Past m p (part q n m) r → Spelled m p t r
  spelled_again t q n r f h =
      let k : q + n - q ≡ n = omega arith in
      let e : part p (r - p) m ≡ part q (q + n - q) m = past_part (part q n m) r h ∙ ap (λ (x : ℕ). part q x m) (sym k) in
      let l : length (part q n m) ≡ n = length-take-le n (drop q m) (omega (arith, length-drop q m, f.within)) in
      record { some = h.some; from = omega (arith, h.place, l, f.from); within = h.within; spelt = ap (λ (x : List ℕ). spells x t) e ∙ f.spelt }

-- one byte more of a text, right here or after white space
module _ (m : List ℕ) (p : ℕ) where
  pub onto_here : (c : ℕ) → 0 < p → p < length m → get_or m p 0 ≡ c → Onto m p c (p + 1)
  onto_here c s h e =
      let k : p + 1 - p ≡ 1 = omega arith in
      let x : part p (p + 1 - p) m ≡ c ∷ [] = ap (λ (y : ℕ). part p y m) k ∙ rw (next m p h, e) refl in
      record { some = s; from = omega arith; within = omega arith; onto = λ u t g. ap (λ (y : List ℕ). spells (y ++ u) (c ∷ t)) x ∙ same_byte c u t g }

  pub onto_behind : (w r : ℕ) → w ≡ lead white (take (length m - p) (drop p m)) → 0 < p → Onto m (p + w) 60 r → Onto m p 60 r
  onto_behind w r e s h =
      let v : w ≡ lead white (drop p m) = e ∙ ap (lead white) (rest_of p m) in
      let b : every white (take w (drop p m)) ≡ true = ap (λ (y : ℕ). every white (take y (drop p m))) v ∙ lead_every white (drop p m) in
      let k : r - p ≡ w + (r - (p + w)) = omega (arith, h.from) in
      let x : part p (r - p) m ≡ take w (drop p m) ++ part (p + w) (r - (p + w)) m =
      ap (λ (y : ℕ). part p y m) k ∙ take-add w (r - (p + w)) (drop p m) ∙ ap (λ (y : List ℕ). take w (drop p m) ++ take (r - (p + w)) y) (drop-drop w p m) in
      record {
        some = s;
        from = omega (arith, h.from);
        within = h.within;
        onto =
            λ u t g.
            ap (λ (y : List ℕ). spells y (60 ∷ t)) (ap (λ (y : List ℕ). y ++ u) x ∙ append_assoc (take w (drop p m)) (part (p + w) (r - (p + w)) m) u)
            ∙ blanks (take w (drop p m)) (part (p + w) (r - (p + w)) m ++ u) t b (h.onto u t g);
      }

-- ---- the loop: the first i bytes of the text are spelled from p to q
pub record Sofar (m : List ℕ) (p : ℕ) (t : List ℕ) (i q : ℕ) : Type 0 where
  pub from : p ≤ q
  pub within : q ≤ length m
  pub moved : 0 < i → p < q
  pub goes : (s : List ℕ) → spells s (drop i t) ≡ true → spells (part p (q - p) m ++ s) t ≡ true

module _ (m : List ℕ) (p : ℕ) (t : List ℕ) where
  pub sofar_none : p ≤ length m → Sofar m p t 0 p
  sofar_none h =
      let k : p - p ≡ 0 = omega arith in
      record { from = omega arith; within = h; moved = λ x. absurd (let z : ⊥ = omega arith in z); goes = λ s g. ap (λ (y : ℕ). spells (part p y m ++ s) t) k ∙ g }

  pub sofar_more : (i q r : ℕ) → Sofar m p t i q → i < length t → Onto m q (get_or t i 0) r → Sofar m p t (i + 1) r
  sofar_more i q r a h b =
      let k : r - p ≡ (q - p) + (r - q) = omega (arith, a.from, b.from) in
      let z : p + (q - p) ≡ q = omega (arith, a.from) in
      let x : part p (r - p) m ≡ part p (q - p) m ++ part q (r - q) m =
      ap (λ (y : ℕ). part p y m) k ∙ take-add (q - p) (r - q) (drop p m) ∙ ap (λ (y : List ℕ). part p (q - p) m ++ take (r - q) y) (drop-drop (q - p) p m ∙ ap (λ (y : ℕ). drop y m) z) in
      record {
        from = omega (arith, a.from, b.from);
        within = b.within;
        moved = λ y. omega (arith, a.from, b.from);
        goes =
            λ s g.
            ap (λ (y : List ℕ). spells y t) (ap (λ (y : List ℕ). y ++ s) x ∙ append_assoc (part p (q - p) m) (part q (r - q) m) s)
            ∙ a.goes (part q (r - q) m ++ s) (ap (spells (part q (r - q) m ++ s)) (next t i h) ∙ b.onto s (drop (i + 1) t) g);
      }

  pub sofar_all : (i q : ℕ) → 0 < p → 0 < length t → length t ≤ i → Sofar m p t i q → Spelled m p t q
  sofar_all i q s n h a =
      record {
        some = s;
        from = a.moved (omega arith);
        within = a.within;
        spelt = ap (λ (y : List ℕ). spells y t) (sym (append-nil (part p (q - p) m))) ∙ a.goes [] (ap (spells []) (drop_of_length-le t h));
      }

-- ---- two words: the bytes below the lowest digit in which they differ are alike
even : (n : ℕ) → n % 2 ≡ 0 → n ≡ 2 * (n / 2)
even n e = omega arith

ends_in : (d n : ℕ) → (q : ℕ) × (n ≡ 2 ^ count_trailing_zeros d n * q)
unfolding count_trailing_zeros
ends_in zero n = (n, omega arith)
ends_in (suc d) n = go (n % 2) refl (ends_in d (n / 2))
  where
    go : (r : ℕ) → n % 2 ≡ r → (q : ℕ) × (n / 2 ≡ 2 ^ count_trailing_zeros d (n / 2) * q) → (q : ℕ) × (n ≡ 2 ^ under r (count_trailing_zeros d (n / 2)) * q)
    go zero e h =
        let t = count_trailing_zeros d (n / 2) in
        (h.0, even n e ∙ ap (λ (x : ℕ). 2 * x) h.1 ∙ sym (mul_assoc 2 (2 ^ t) h.0) ∙ ap (λ (x : ℕ). x * h.0) (sym (pow-succ' 2 t)))
    go (suc r) e h = (n, omega arith)

by_eights : (r : ℕ) → 2 ^ (8 * r) ≡ 256 ^ r
by_eights zero = refl
by_eights (suc r) =
    let e : 8 * suc r ≡ 8 + 8 * r = omega arith in
    ap (λ (x : ℕ). 2 ^ x) e ∙ pow-add 2 8 (8 * r) ∙ ap (λ (x : ℕ). 256 * x) (by_eights r) ∙ sym (pow-succ' 256 r)

-- equal below 256 ^ r
pub record Low (x y r : ℕ) : Type 0 where
  pub u : ℕ
  pub v : ℕ
  pub same : x + 256 ^ r * u ≡ y + 256 ^ r * v

low_words : (x y d r : ℕ) → (d + y) % 2 ^ 64 ≡ x → r ≡ count_trailing_zeros 64 d / 8 → Low x y r
low_words x y d r e f =
    let t = count_trailing_zeros 64 d in
    let h = ends_in 64 d in
    let g : t ≤ 64 = trailing_le 64 d in
    let a : t ≡ 8 * r + t % 8 = omega (arith, f) in
    let b : r + (8 - r) ≡ 8 = omega (arith, f, g) in
    let k : d ≡ 256 ^ r * (2 ^ (t % 8) * h.0) =
    h.1 ∙ ap (λ (z : ℕ). 2 ^ z * h.0) a ∙ ap (λ (z : ℕ). z * h.0) (pow-add 2 (8 * r) (t % 8) ∙ ap (λ (z : ℕ). z * 2 ^ (t % 8)) (by_eights r))
    ∙ mul_assoc (256 ^ r) (2 ^ (t % 8)) h.0 in
    let q = (d + y) / 18446744073709551616 in
    let n : 18446744073709551616 * q ≡ 256 ^ r * (256 ^ (8 - r) * q) =
    ap (λ (z : ℕ). 256 ^ z * q) (sym b) ∙ ap (λ (z : ℕ). z * q) (pow-add 256 r (8 - r)) ∙ mul_assoc (256 ^ r) (256 ^ (8 - r)) q in
    record { u = 256 ^ (8 - r) * q; v = 2 ^ (t % 8) * h.0; same = over x y d q (256 ^ r * (256 ^ (8 - r) * q)) (256 ^ r * (2 ^ (t % 8) * h.0)) e refl n k }
  where
    over : (x y d q a b : ℕ) → (d + y) % 18446744073709551616 ≡ x → q ≡ (d + y) / 18446744073709551616 → 18446744073709551616 * q ≡ a → d ≡ b → x + a ≡ y + b
    over x y d q a b e f g h = omega arith

-- the number that n bytes are
abbrev worth : ℕ → (ℕ → ℕ) → ℕ
worth zero a = 0
worth (suc n) a = a 0 + 256 * worth n (λ i. a (suc i))

low_digit : (a b x y u v k l : ℕ) → k ≡ 256 * u → l ≡ 256 * v → a + 256 * x + k ≡ b + 256 * y + l → a < 256 → b < 256 → Both a b (x + u) (y + v)
low_digit a b x y u v k l e f g h i = record { low = omega arith; high = omega arith }

low_bytes : (r n : ℕ) (a b : ℕ → ℕ) (u v : ℕ) → ((i : ℕ) → i < n → a i < 256) → ((i : ℕ) → i < n → b i < 256) → r ≤ n
    → worth n a + 256 ^ r * u ≡ worth n b + 256 ^ r * v → (j : ℕ) → j < r → a j ≡ b j
low_bytes zero n a b u v f g h e j q = absurd (let z : ⊥ = omega arith in z)
low_bytes (suc r) zero a b u v f g h e j q = absurd (let z : ⊥ = omega arith in z)
low_bytes (suc r) (suc n) a b u v f g h e j q =
    go j q (λ k l. low_bytes r n (λ i. a (suc i)) (λ i. b (suc i)) u v (λ i w. f (suc i) (omega arith)) (λ i w. g (suc i) (omega arith)) (omega arith) z.high k l)
  where
    up : (x : ℕ) → 256 ^ suc r * x ≡ 256 * (256 ^ r * x)
    up x = ap (λ (z : ℕ). z * x) (pow-succ' 256 r) ∙ mul_assoc 256 (256 ^ r) x

    z : Both (a 0) (b 0) (worth n (λ i. a (suc i)) + 256 ^ r * u) (worth n (λ i. b (suc i)) + 256 ^ r * v)
    z = low_digit (a 0) (b 0) (worth n (λ i. a (suc i))) (worth n (λ i. b (suc i))) (256 ^ r * u) (256 ^ r * v) (256 ^ suc r * u) (256 ^ suc r * v) (up u) (up v) e (f 0 (omega arith)) (g 0 (omega arith))

    go : (k : ℕ) → k < suc r → ((i : ℕ) → i < r → a (suc i) ≡ b (suc i)) → a k ≡ b k
    go zero l y = z.low
    go (suc k) l y = y k (omega arith)

module _ (s : List ℕ) (p : ℕ) where
  each-eight : Eight s p → (i : ℕ) → i < 8 → get_or s (p + i) 0 < 256
  each-eight h zero l = rw (add-zero p) h.low.b0
  each-eight h (suc zero) l = h.low.b1
  each-eight h (suc (suc zero)) l = h.low.b2
  each-eight h (suc (suc (suc zero))) l = h.low.b3
  each-eight h (suc (suc (suc (suc zero)))) l = h.b4
  each-eight h (suc (suc (suc (suc (suc zero))))) l = h.b5
  each-eight h (suc (suc (suc (suc (suc (suc zero)))))) l = h.b6
  each-eight h (suc (suc (suc (suc (suc (suc (suc zero))))))) l = h.b7
  each-eight h (suc (suc (suc (suc (suc (suc (suc (suc i)))))))) l = absurd (let z : ⊥ = omega arith in z)

  word-worth : worth 8 (λ i. get_or s (p + i) 0) ≡ word_at s p
  word-worth = rw (add-zero p) (omega arith)

pub words_alike : (s : List ℕ) (p : ℕ) (t : List ℕ) (k x y d r : ℕ) → (x ≡ word_at s p) × Eight s p → (y ≡ word_at t k) × Eight t k → (d + y) % 2 ^ 64 ≡ x → r ≡ count_trailing_zeros 64 d / 8
    → (r ≤ 8) × Match s p t k r
words_alike s p t k x y d r a b e f =
    let l = low_words x y d r e f in
    let h : r ≤ 8 = omega (arith, f, trailing_le 64 d) in
    let g : worth 8 (λ i. get_or s (p + i) 0) + 256 ^ r * l.u ≡ worth 8 (λ i. get_or t (k + i) 0) + 256 ^ r * l.v =
    ap (λ (z : ℕ). z + 256 ^ r * l.u) (word-worth s p ∙ sym a.0) ∙ l.same ∙ ap (λ (z : ℕ). z + 256 ^ r * l.v) (b.0 ∙ sym (word-worth t k)) in
    (h, record { each = low_bytes r 8 (λ i. get_or s (p + i) 0) (λ i. get_or t (k + i) 0) l.u l.v (each-eight s p a.1) (each-eight t k b.1) h g })

-- ---- white space: a few bytes, and then such as are alike
module _ (m : List ℕ) where
  pub all_white : (n p : ℕ) → p + n ≤ length m → ((j : ℕ) → j < n → white (get_or m (p + j) 0) ≡ true) → every white (part p n m) ≡ true
  all_white zero p h f = refl
  all_white (suc n) p h f =
      let a : white (get_or m p 0) ≡ true = ap (λ (k : ℕ). white (get_or m k 0)) (sym (add-zero p)) ∙ f 0 (omega arith) in
      let b : every white (take n (drop (p + 1) m)) ≡ true =
      all_white n (p + 1) (omega arith) (λ j l. let e : p + 1 + j ≡ p + suc j = omega arith in ap (λ (k : ℕ). white (get_or m k 0)) e ∙ f (suc j) (omega arith)) in
      rw (next m p (omega arith), a) b

  filled : (q k : ℕ) → Match m q m (q + 1) k → white (get_or m q 0) ≡ true → (j : ℕ) → j ≤ k → white (get_or m (q + j) 0) ≡ true
  filled q k f w zero h = ap (λ (x : ℕ). white (get_or m x 0)) (add-zero q) ∙ w
  filled q k f w (suc j) h =
      let e : q + suc j ≡ q + 1 + j = omega arith in
      ap (λ (x : ℕ). white (get_or m x 0)) e ∙ ap white (sym (f.each j (omega arith))) ∙ filled q k f w j (omega arith)

  pub white_one : (p : ℕ) → p + 1 ≤ length m → white (get_or m p 0) ≡ true → every white (part p 1 m) ≡ true
  white_one p h a = all_white 1 p h each
    where
      each : (j : ℕ) → j < 1 → white (get_or m (p + j) 0) ≡ true
      each zero l = ap (λ (x : ℕ). white (get_or m x 0)) (add-zero p) ∙ a
      each (suc j) l = absurd (let z : ⊥ = omega arith in z)

  pub white_few : (p w : ℕ) → p + 1 ≤ length m → w ≤ 1 → (0 < w → white (get_or m p 0) ≡ true) → every white (part p w m) ≡ true
  white_few p zero h l f = refl
  white_few p (suc zero) h l f = white_one p h (f (omega arith))
  white_few p (suc (suc w)) h l f = absurd (let z : ⊥ = omega arith in z)

  pub white_two : (p : ℕ) → p + 2 ≤ length m → white (get_or m p 0) ≡ true → white (get_or m (p + 1) 0) ≡ true → every white (part p 2 m) ≡ true
  white_two p h a b = all_white 2 p h each
    where
      each : (j : ℕ) → j < 2 → white (get_or m (p + j) 0) ≡ true
      each zero l = ap (λ (x : ℕ). white (get_or m x 0)) (add-zero p) ∙ a
      each (suc zero) l = b
      each (suc (suc j)) l = absurd (let z : ⊥ = omega arith in z)

  pub white_more : (p k : ℕ) → p + (3 + k) ≤ length m → white (get_or m p 0) ≡ true → white (get_or m (p + 1) 0) ≡ true → white (get_or m (p + 2) 0) ≡ true → Match m (p + 2) m (p + 3) k
      → every white (part p (3 + k) m) ≡ true
  white_more p k h a b c f = all_white (3 + k) p h each
    where
      each : (j : ℕ) → j < 3 + k → white (get_or m (p + j) 0) ≡ true
      each zero l = ap (λ (x : ℕ). white (get_or m x 0)) (add-zero p) ∙ a
      each (suc zero) l = b
      each (suc (suc j)) l =
          let e : p + suc (suc j) ≡ p + 2 + j = omega arith in
          let g : p + 3 ≡ p + 2 + 1 = omega arith in
          ap (λ (x : ℕ). white (get_or m x 0)) e ∙ filled (p + 2) k (rw (← g) f) c j (omega arith)

-- ---- the loop, by words: white space, and then bytes that are alike
same_bytes : (u s t : List ℕ) → spells s t ≡ true → spells (u ++ s) (u ++ t) ≡ true
same_bytes [] s t h = h
same_bytes (c ∷ u) s t h = same_byte c (u ++ s) (u ++ t) (same_bytes u s t h)

part_join : (m : List ℕ) (p q r : ℕ) → p ≤ q → q ≤ r → part p (r - p) m ≡ part p (q - p) m ++ part q (r - q) m
part_join m p q r h g =
    let k : r - p ≡ (q - p) + (r - q) = omega arith in
    let z : p + (q - p) ≡ q = omega arith in
    ap (λ (y : ℕ). part p y m) k ∙ take-add (q - p) (r - q) (drop p m) ∙ ap (λ (y : List ℕ). part p (q - p) m ++ take (r - q) y) (drop-drop (q - p) p m ∙ ap (λ (y : ℕ). drop y m) z)

module _ (m : List ℕ) (p : ℕ) (t : List ℕ) where
  goes_on : (q r : ℕ) (s : List ℕ) → p ≤ q → q ≤ r → spells (part p (q - p) m ++ (part q (r - q) m ++ s)) t ≡ true → spells (part p (r - p) m ++ s) t ≡ true
  goes_on q r s h g e = ap (λ (y : List ℕ). spells y t) (ap (λ (y : List ℕ). y ++ s) (part_join m p q r h g) ∙ append_assoc (part p (q - p) m) (part q (r - q) m) s) ∙ e

  sofar-white : (i q w : ℕ) → Sofar m p t i q → i < length t → (0 < w → get_or t i 0 ≡ 60) → every white (part q w m) ≡ true → q + w ≤ length m → Sofar m p t i (q + w)
  sofar-white i q zero a h c f g = rw (add-zero q) a
  sofar-white i q (suc w) a h c f g =
      let k : q + suc w - q ≡ suc w = omega arith in
      let n : drop i t ≡ 60 ∷ drop (i + 1) t = next t i h ∙ ap (λ (x : ℕ). x ∷ drop (i + 1) t) (c (omega arith)) in
      record {
        from = omega (arith, a.from);
        within = g;
        moved = λ y. omega (arith, a.from);
        goes =
            λ s e.
            goes_on q (q + suc w) s a.from (omega arith)
            (a.goes (part q (q + suc w - q) m ++ s) (rw (n, k) (blanks (part q (suc w) m) s (drop (i + 1) t) f (ap (spells s) (sym n) ∙ e))));
      }

  sofar-alike : (i q n : ℕ) → Sofar m p t i q → Match m q t i n → i + n ≤ length t → q + n ≤ length m → Sofar m p t (i + n) (q + n)
  sofar-alike i q n a f h g =
      let k : q + n - q ≡ n = omega arith in
      let d : drop i t ≡ part q n m ++ drop (i + n) t =
      sym (take-append-drop n (drop i t)) ∙ ap (λ (y : List ℕ). y ++ drop n (drop i t)) (sym (match_part m q t i n g h f)) ∙ ap (λ (y : List ℕ). part q n m ++ y) (drop-drop n i t) in
      record {
        from = omega (arith, a.from);
        within = g;
        moved = moved n;
        goes = λ s e. goes_on q (q + n) s a.from (omega arith) (a.goes (part q (q + n - q) m ++ s) (rw (d, k) (same_bytes (part q n m) s (drop (i + n) t) e)));
      }
    where
      moved : (n : ℕ) → 0 < i + n → p < q + n
      moved zero y = omega (arith, a.moved (omega arith))
      moved (suc n) y = omega (arith, a.from)

  pub sofar_turn : (i q w n : ℕ) → Sofar m p t i q → i < length t → (0 < w → get_or t i 0 ≡ 60) → every white (part q w m) ≡ true → Match m (q + w) t i n
      → i + n ≤ length t → q + (w + n) ≤ length m → Sofar m p t (i + n) (q + (w + n))
  sofar_turn i q w n a h c f e g l =
      let z : q + w + n ≡ q + (w + n) = omega arith in
      rw (← z) (sofar-alike i (q + w) n (sofar-white i q w a h c f (omega arith)) e g (omega arith))

  pub sofar_then : (i q r : ℕ) → 0 < p → Sofar m p t i q → Spelled m q (take (length t - i) (drop i t)) r → Spelled m p t r
  sofar_then i q r s a h =
      record {
        some = s;
        from = omega (arith, a.from, h.from);
        within = h.within;
        spelt =
            ap (λ (y : List ℕ). spells y t) (part_join m p q r a.from (omega (arith, h.from)))
            ∙ a.goes (part q (r - q) m) (ap (spells (part q (r - q) m)) (sym (rest_of i t)) ∙ h.spelt);
      }
