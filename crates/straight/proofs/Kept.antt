-- How what is kept grows by a run; and that a stretch that is kept stands again.
use Rattle.std.proofs.Common.{◌≡◌, ℕ, zero, suc, ◌+◌, ◌-◌, ◌<◌, ◌≤◌, Bool, true, false, eqb, List, [], ◌∷◌, length, get_or, drop, set, replicate, sym, refl, ap, ◌∙◌, add-zero, arith, length-drop, length-set, length-take-le, get_or-drop, get_or-set_other, get_or-take, get_or-set_same, eqb-true}
use borrow.Author.Tests.{eqb-false}
use Rattle.text.specs.Truth.{part}
use Rattle.profile.specs.declared.Version.{Version}
use Rattle.swift_values.proofs.Values.{found}
use Rattle.straight.specs.declared.before.Spelling.{Spelling}
use Rattle.straight.specs.declared.before.Before.{Before}
use Rattle.straight.specs.Due.{Past}
use Rattle.straight.specs.Words.{Match}
use Rattle.straight.specs.Spelled.{Spelled}
use Rattle.straight.specs.Runs.{text_at}
use Rattle.straight.specs.Ways.{Leg, tags, holds, Way, Gone, lifted}
use Rattle.straight.specs.Kept.{unknown, SpelledAs, Kept}
use Rattle.straight.proofs.Spelled.{past_part}
use Rattle.straight.proofs.Stretches.{followed, way_le, way_again}

-- ---- where values begin on a way
abbrev pub Reach : ℕ → ℕ → List Leg → Type 0
Reach b r [] = Unit {0}
Reach b r (tags ts ∷ ls) = Reach b r ls
Reach b r (holds k f a d ∷ ls) = (b ≤ a) × (a ≤ r) × Reach b r ls

way_reach : (m : List ℕ) (ls : List Leg) (b p r : ℕ) → b ≤ p → Way m p ls r → Reach b r ls
way_reach m [] b p r h w = tt
way_reach m (tags ts ∷ ls) b p r h w = way_reach m ls b w.place r (omega (arith, w.first.spelled.from)) w.rest
way_reach m (holds k f a d ∷ ls) b p r h w =
    (omega (arith, w.0), omega (arith, w.0, w.1.first.stands.from, way_le m ls w.1.place r w.1.rest), way_reach m ls b w.1.place r (omega (arith, w.1.first.stands.from)) w.1.rest)

pub gone_reach : (m : List ℕ) (p : ℕ) (ls : List Leg) (r : ℕ) → Gone m p ls r → Reach p r ls
gone_reach m p ls r g = way_reach m ls p p r (omega arith) g.way

pub gone_le : (m : List ℕ) (p : ℕ) (ls : List Leg) (r : ℕ) → Gone m p ls r → p ≤ r
gone_le m p ls r g = way_le m ls p r g.way

-- ---- none is known at first
pub unknowns : (n i : ℕ) → get_or (replicate n unknown) i unknown ≡ unknown
unknowns zero i = refl
unknowns (suc n) zero = refl
unknowns (suc n) (suc i) = unknowns n i

-- ---- of one run something else is kept, or nothing: the rest stays
pub kept_run : (m : List ℕ) (v : Version) (b : Before) (j : ℕ) (x : Spelling) → Kept m v b → j < 29 → SpelledAs m j x → Kept m v (record b { runs = set b.runs j x })
kept_run m v b j x k h f = record {
  many = length-set b.runs j x ∙ k.many;
  each = λ i g. go i g (eqb i j) refl;
  typed = k.typed;
  charged = k.charged;
  creditor = k.creditor;
}
  where
    go : (i : ℕ) → i < 29 → (t : Bool) → eqb i j ≡ t → SpelledAs m i (get_or (set b.runs j x) i unknown)
    go i g true e =
        let z : i ≡ j = eqb-true i j e in
        let y : get_or (set b.runs j x) j unknown ≡ x = get_or-set_same b.runs j x unknown (omega (arith, k.many)) in
        rw (z, y) f
    go i g false e =
        let y : get_or (set b.runs j x) i unknown ≡ get_or b.runs i unknown = get_or-set_other b.runs j i x unknown (eqb-false i j e) in
        rw y (k.each i g)

pub spelled_as : (m : List ℕ) (p j r w : ℕ) → Spelled m p (text_at j) r → SpelledAs m j (record { place = p; length = r - p; waits = w })
spelled_as m p j r w s =
    found (λ x. Spelled m p (text_at j) (p + x)) (r - p) (let e : p + (r - p) ≡ r = omega (arith, s.from) in rw e s)

-- ---- a stretch stands again
past_match : (m : List ℕ) (p q n r : ℕ) → q + n ≤ length m → Past m p (part q n m) r → Match m p m q n
past_match m p q n r g h =
    let l : length (part q n m) ≡ n = length-take-le n (drop q m) (omega (arith, length-drop q m)) in
    let z : r - p ≡ n = omega (arith, h.place, l) in
    let e : part p n m ≡ part q n m = ap (λ (x : ℕ). part p x m) (sym z) ∙ past_part m p (part q n m) r h in
    record { each = λ j b. sym (byte p j b) ∙ ap (λ (x : List ℕ). get_or x j 0) e ∙ byte q j b }
  where
    byte : (x j : ℕ) → j < n → get_or (part x n m) j 0 ≡ get_or m (x + j) 0
    byte x j b = get_or-take n (drop x m) j 0 b ∙ get_or-drop x m j 0

stood_again : (m : List ℕ) (q n p r : ℕ) (ls : List Leg) → followed ls ≡ true → Gone m q (lifted q ls) (q + n) → Past m p (part q n m) r → Gone m p (lifted p ls) r
stood_again m q n p r ls f g h =
    let l : length (part q n m) ≡ n = length-take-le n (drop q m) (omega (arith, length-drop q m, g.within)) in
    let e : r ≡ p + n = omega (arith, h.place, l) in
    let w : Way m (q + 0) (lifted q ls) (q + n) = rw (add-zero q) g.way in
    let v = way_again m p q n h.some (omega (arith, h.within)) (past_match m p q n r g.within h) ls 0 f w in
    record { some = h.some; within = h.within; way = rw e (rw (add-zero p) at v) }

-- the same legs, with places counted from q on
abbrev pub lowered : ℕ → List Leg → List Leg
lowered q [] = []
lowered q (tags ts ∷ ls) = tags ts ∷ lowered q ls
lowered q (holds k f a d ∷ ls) = holds k f (a - q) d ∷ lowered q ls

lifted_back : (q r : ℕ) (ls : List Leg) → Reach q r ls → lifted q (lowered q ls) ≡ ls
lifted_back q r [] h = refl
lifted_back q r (tags ts ∷ ls) h = ap (λ (x : List Leg). tags ts ∷ x) (lifted_back q r ls h)
lifted_back q r (holds k f a d ∷ ls) h =
    let e : q + (a - q) ≡ a = omega (arith, h.0) in
    rw (e, lifted_back q r ls h.2) refl

-- from p on, where it stood from q to e
pub stretch_again : (m : List ℕ) (q e p r : ℕ) (ls : List Leg) → followed (lowered q ls) ≡ true → Gone m q ls e → Past m p (part q (e - q) m) r → Gone m p (lifted p (lowered q ls)) r
stretch_again m q e p r ls f g h =
    let z : q + (e - q) ≡ e = omega (arith, gone_le m q ls e g) in
    let y : lifted q (lowered q ls) ≡ ls = lifted_back q e ls (gone_reach m q ls e g) in
    let x : Gone m q (lifted q (lowered q ls)) (q + (e - q)) = rw (z, y) g in
    stood_again m q (e - q) p r (lowered q ls) f x h
