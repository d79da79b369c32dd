-- What can be made of a message that ends where more is due: continued in some way, nothing is wrong in it but, it may be, a currency.
use mathlib.Core.Path.{◌≡◌, refl, sym, ap, ◌∙◌}
use mathlib.Core.Bool.{Bool, true, false}
use mathlib.Core.List.{List, [], ◌∷◌, ◌++◌, append_assoc, append-nil}
use mathlib.Core.Logic.{◌⊎◌, inl, inr}
use Prim.Native.Nat.{ℕ, suc, ◌+◌, ◌-◌, ◌≤◌}
use native.Mathlib.Omega.{arith}
use borrow.Author.Tests.{eq-eqb}
use lib.ListN.{length, drop, length-append, length-drop}
use lib.Seq.{drop-append-le, drop-append_seam}
use Rattle.text.specs.Truth.{pick, every, lead}
use Rattle.text.proofs.Scan.{lead_before, every_lead}
use Rattle.tags.specs.declared.Look.TheVariants.{Whole as Complete, Cut, Other}
use Rattle.tags.specs.Tags.{look}
use Rattle.reading.specs.Trace.{Trace, met, up_to, fault, and_then}
use Rattle.reading.proofs.Flat.{never, Whole}
use Rattle.faults.proofs.Fronts.{runs}
use Rattle.faults.proofs.Extends.{Extends, also, done, wrong, ended}
use Rattle.documents.proofs.Texts.{Starts}
use Rattle.faults.proofs.Lacks.{lack, Lack, lack_then, lack_first}
use Rattle.faults.proofs.Fills.{Fills}

-- ---- of a trace of l bytes: all was read and nothing is left, or more is due (3), or a currency is wrong (6); and without the 3
abbrev pub Due : ℕ → Trace → Type 0
Due l (met e t) = Due l t
Due l (up_to p) = p ≡ l
Due l (fault n q) = (n ≡ 3) ⊎ (n ≡ 6)

abbrev pub Fine : ℕ → Trace → Type 0
Fine l (met e t) = Fine l t
Fine l (up_to p) = p ≡ l
Fine l (fault n q) = n ≡ 6

pub whole_fine : (t : Trace) (q l : ℕ) → q ≡ l → Whole t q → Fine l t
whole_fine (met x t) q l e w = whole_fine t q l e w
whole_fine (up_to p) q l e w = w ∙ e
whole_fine (fault n p) q l e w = absurd w

fine_then : (t : Trace) (f : ℕ → Trace) (q l : ℕ) → Whole t q → Fine l (f q) → Fine l (and_then t f)
fine_then (met e t) f q l w h = fine_then t f q l w h
fine_then (up_to p) f q l w h = rw w h
fine_then (fault n p) f q l w h = absurd w

-- what is due after a part: the part is whole, and it is due after that; or it is due within
record After (t : Trace) (f : ℕ → Trace) (l : ℕ) : Type 0 where
  pub at : ℕ
  pub first : Whole t at
  pub then : Due l (f at)

due_after : (t : Trace) (f : ℕ → Trace) (l : ℕ) → Due l (and_then t f) → After t f l ⊎ Due l t
due_after (met e t) f l d = elim (due_after t f l d) [ inl a ↦ inl (record { at = a.at; first = a.first; then = a.then }) | inr h ↦ inr h ]
due_after (up_to p) f l d = inl (record { at = p; first = refl; then = d })
due_after (fault n q) f l d = inr d

fine_after : (t : Trace) (f : ℕ → Trace) (l : ℕ) → Fine l t → Whole t l ⊎ (Fine l (and_then t f) × (Lack (and_then t f) ≡ Lack t))
fine_after (met e t) f l h = elim (fine_after t f l h) [ inl w ↦ inl w | inr g ↦ inr (g.0, ap (λ (i : ℕ). lack e.what + i) g.1) ]
fine_after (up_to p) f l h = inl h
fine_after (fault n q) f l h = inr (h, refl)

-- a part that is whole is the same in the message continued, and lies between
pub extends_whole : {l a : ℕ} {s t : Trace} (q : ℕ) → Extends l a s t → Whole s q → (s ≡ t) × (a ≤ q) × (q ≤ l)
extends_whole q (also e h x) w = let r = extends_whole q x w in (ap (met e) r.0, r.1, r.2)
extends_whole q (done p h g) w = (refl, omega arith, omega arith)
extends_whole q (wrong n r f z h) w = absurd w
extends_whole q ended w = absurd w

-- ---- continued with at most B bytes, in which no payment type is missing
pub record Made (B : ℕ) (m : List ℕ) (T : List ℕ → Trace) : Type 0 where
  pub more : List ℕ
  pub short : length more ≤ B
  pub fine : Fine (length (m ++ more)) (T (m ++ more))
  pub lacks : Lack (T (m ++ more)) ≤ Lack (T m)

pub made_now : (B : ℕ) (m : List ℕ) (T : List ℕ → Trace) → Fine (length m) (T m) → Made B m T
made_now B m T h = record { more = []; short = omega arith; fine = rw (append-nil m) h; lacks = rw (append-nil m) (omega arith) }

pub made_as : {B : ℕ} (C : ℕ) {m : List ℕ} {T : List ℕ → Trace} (U : List ℕ → Trace) → Made B m T → B ≤ C
    → ((x : List ℕ) → Fine (length (m ++ x)) (T (m ++ x)) → Fine (length (m ++ x)) (U (m ++ x)))
    → ((x : List ℕ) → Lack (T (m ++ x)) ≤ Lack (T m) → Lack (U (m ++ x)) ≤ Lack (U m)) → Made C m U
made_as C U d h k j = record { more = d.more; short = omega (arith, d.short); fine = k d.more d.fine; lacks = j d.more d.lacks }

pub made_more : {B : ℕ} (C : ℕ) (m w : List ℕ) (T : List ℕ → Trace) → Made B (m ++ w) T → length w + B ≤ C → Lack (T (m ++ w)) ≤ Lack (T m) → Made C m T
made_more C m w T d h j =
    record {
      more = w ++ d.more;
      short = omega (arith, length-append w d.more, d.short);
      fine = rw (← append_assoc m w d.more) d.fine;
      lacks = rw (← append_assoc m w d.more) (omega (arith, d.lacks, j));
    }

-- a text that fills what is due at the message's end
module _ (F : List ℕ → ℕ → Trace) (y : List ℕ) (h : Fills F y) (m : List ℕ) where
  abbrev its : Whole (F (m ++ y) (length m)) (length m + length y) × (Lack (F (m ++ y) (length m)) ≡ 0)
  its = h (m ++ y) (length m) [] (drop-append_seam m y ∙ sym (append-nil y))

  pub filled : Fine (length (m ++ y)) (F (m ++ y) (length m)) × (Lack (F (m ++ y) (length m)) ≡ 0)
  filled = (whole_fine (F (m ++ y) (length m)) (length m + length y) (length (m ++ y)) (sym (length-append m y)) its.0, its.1)

  pub filled_up : Made (length y) m (λ n. F n (length m))
  filled_up = record { more = y; short = omega arith; fine = filled.0; lacks = omega (arith, filled.1) }

-- ---- one part after another
module _ (S : List ℕ → Trace) (F : List ℕ → ℕ → Trace) (m : List ℕ) (a bs be : ℕ)
    (ext : (n x : List ℕ) → length m ≤ length n → Extends (length n) a (S n) (S (n ++ x)))
    (cs : Due (length m) (S m) → Made bs m S) (ef : (n : List ℕ) → Made be n (λ k. F k (length n))) (ez : (n : List ℕ) → Lack (F n (length n)) ≡ 0) where
  -- a part that is whole is the same continued, and what follows it counts
  whole-lacks : (n x : List ℕ) (q : ℕ) → length m ≤ length n → Whole (S n) q → Lack (and_then (S (n ++ x)) (F (n ++ x))) ≡ Lack (S n) + Lack (F (n ++ x) q)
  whole-lacks n x q h w = rw (← (extends_whole q (ext n x h) w).0) (lack_then (S n) (F (n ++ x)) q w)

  pub first_made : (B : ℕ) → bs + be ≤ B → Due (length m) (S m) → Made B m (λ n. and_then (S n) (F n))
  first_made B h d = go (cs d)
    where
      go : Made bs m S → Made B m (λ n. and_then (S n) (F n))
      go c = elim (fine_after (S n) (F n) (length n) c.fine) [
        | inr f ↦ record { more = c.more; short = omega (arith, c.short); fine = f.0; lacks = omega (arith, f.1, c.lacks, lack_first (S m) (F m)) }
        | inl w ↦ made_more B m c.more (λ n. and_then (S n) (F n)) (made_as be (λ n. and_then (S n) (F n)) (ef n) (omega arith) (λ x f.
            fine_then (S (n ++ x)) (F (n ++ x)) (length n) (length (n ++ x)) (rw (extends_whole (length n) (ext n x (omega (arith, length-append m c.more))) w).0 at w) f)
            (λ x f. omega (arith, f, whole-lacks n x (length n) long w, lack_then (S n) (F n) (length n) w)))
            (omega (arith, c.short)) (omega (arith, c.lacks, lack_then (S n) (F n) (length n) w, ez n, lack_first (S m) (F m)))
      ]
        where
          n : List ℕ
          n = m ++ c.more

          long : length m ≤ length n
          long = omega (arith, length-append m c.more)

  pub then_made_lem : (B : ℕ) → bs + be ≤ B → ((q : ℕ) → a ≤ q → q ≤ length m → Due (length m) (F m q) → Made B m (λ n. F n q))
      → Due (length m) (and_then (S m) (F m)) → Made B m (λ n. and_then (S n) (F n))
  then_made_lem B h cf d = elim (due_after (S m) (F m) (length m) d) [
    | inr g ↦ first_made B h g
    | inl o ↦ go o (extends_whole o.at (ext m [] (omega arith)) o.first)
  ]
    where
      go : (o : After (S m) (F m) (length m)) → (S m ≡ S (m ++ [])) × (a ≤ o.at) × (o.at ≤ length m) → Made B m (λ n. and_then (S n) (F n))
      go o r =
          made_as B (λ n. and_then (S n) (F n)) (cf o.at r.1 r.2 o.then) (omega arith)
          (λ x f. fine_then (S (m ++ x)) (F (m ++ x)) o.at (length (m ++ x)) (rw (extends_whole o.at (ext m x (omega arith)) o.first).0 at o.first) f)
          (λ x f. omega (arith, f, whole-lacks m x o.at (omega arith) o.first, lack_then (S m) (F m) o.at o.first))

-- ---- a run of bytes that pass ends where it did, if what comes behind the message begins with another
pub run_same : (f : ℕ → Bool) → f 60 ≡ false → (m x : List ℕ) (p : ℕ) → p ≤ length m → (p + lead f (drop p m) ≡ length m → Starts x)
    → p + lead f (drop p (m ++ x)) ≡ p + lead f (drop p m)
run_same f z m x p h k = elim (runs m x p h f) [ inr e ↦ rw e | inl e ↦ go e (k e) ]
  where
    go : p + lead f (drop p m) ≡ length m → Starts x → p + lead f (drop p (m ++ x)) ≡ p + lead f (drop p m)
    go e l =
        let all : lead f (drop p m) ≡ length (drop p m) = omega (arith, length-drop p m) in
        let each : every f (drop p m) ≡ true = sym (every_lead f (drop p m)) ∙ eq-eqb (lead f (drop p m)) (length (drop p m)) all in
        rw (drop-append-le p m x h, l.is, lead_before f (drop p m) 60 l.rest each z, all)

-- ---- bytes that pass tests, cut: made whole by what is left of a text that passes them
pub record Mended (t : List (ℕ → Bool)) (m : List ℕ) (p : ℕ) : Type 0 where
  pub more : List ℕ
  pub short : length more ≤ length t
  pub whole : look t (drop p (m ++ more)) ≡ Complete
  pub size : length (m ++ more) ≡ p + length t
  pub led : p ≡ length m → Starts more

cut_fits : (t : List (ℕ → Bool)) (y s : List ℕ) → look t y ≡ Complete → length y ≡ length t → look t s ≡ Cut
    → (look t (s ++ drop (length s) y) ≡ Complete) × (length s + length (drop (length s) y) ≡ length t)
cut_fits [] y s e l c = never (cc)
cut_fits (f ∷ t) [] s e l c = never (cc)
cut_fits (f ∷ t) (b ∷ y) [] e l c = (e, omega arith)
cut_fits (f ∷ t) (b ∷ y) (d ∷ s) e l c = go (f b) (f d) e c (cut_fits t y s)
  where
    go : (u v : Bool) → pick u (look t y) Other ≡ Complete → pick v (look t s) Other ≡ Cut
        → (look t y ≡ Complete → length y ≡ length t → look t s ≡ Cut → (look t (s ++ drop (length s) y) ≡ Complete) × (length s + length (drop (length s) y) ≡ length t))
        → (pick v (look t (s ++ drop (length s) y)) Other ≡ Complete) × (suc (length s) + length (drop (length s) y) ≡ suc (length t))
    go true true e c k = let r = k e (omega arith) c in (r.0, omega (arith, r.1))
    go true false e c k = never (cc)
    go false v e c k = never (cc)

pub mend : (t : List (ℕ → Bool)) (y : List ℕ) → Starts y → look t y ≡ Complete → length y ≡ length t → (m : List ℕ) (p : ℕ) → p ≤ length m → look t (drop p m) ≡ Cut → Mended t m p
mend t y l e s m p h c =
    let r = cut_fits t y (drop p m) e s c in
    let x : List ℕ = drop (length (drop p m)) y in
    record {
      more = x;
      short = omega (arith, r.1);
      whole = rw (drop-append-le p m x h) r.0;
      size = omega (arith, r.1, length-append m x, length-drop p m);
      led = λ i. rw (none i) l;
    }
  where
    none : p ≡ length m → drop (length (drop p m)) y ≡ y
    none i = let z : length (drop p m) ≡ 0 = omega (arith, length-drop p m) in rw z
