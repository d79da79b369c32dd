-- The exact readers, group by group: a start tag by how it lies, one part behind another, and what the definition says of groups of one child.
use Rattle.std.proofs.Common.{◌≡◌, ℕ, ◌+◌, ◌-◌, ◌≤◌, Bool, true, false, List, length, take, drop, sym, refl, ap, ◌∙◌, arith, length-drop}
use Prim.Native.String.{String}
use Rattle.std.specs.Prelude.{Result, Err}
use Rattle.std.specs.Result.{IsErrAnd}
use Rattle.std.proofs.lemmas.Result.{err_from_is_err_and}
use Rattle.answers.specs.declared.Refused.{Refused}
use Rattle.notes.specs.declared.State.{State}
use Rattle.text.specs.Truth.{lead, pick}
use Rattle.text.proofs.Truths.{never}
use Rattle.text.proofs.Scan.{rest_of}
use Rattle.tags.specs.declared.Look.{Look}
use Rattle.tags.specs.declared.Look.TheVariants.{Whole, Cut, Other}
use Rattle.tags.specs.Tags.{white, skipped, look, on_look, exactly, plain_tag, end_tag}
use Rattle.tags.proofs.Looks.{look_fits, text_fits}
use Rattle.profile.specs.declared.Kind.{Kind}
use Rattle.profile.specs.declared.Field.{Field}
use Rattle.profile.specs.Kinds.{is_amount}
use Rattle.profile.specs.Tree.{once, optional, Shape, end, leaf, group}
use Rattle.profile.specs.Profile.{is_type}
use Rattle.reading.specs.Trace.{there, absent, ◌at◌, Trace, met, up_to, fault, and_then, ends, trace}
use Rattle.reading.specs.Noted.{Reading, on, stop, Ended}
use Rattle.reading.proofs.Flat.{then_then}
use Rattle.notes.specs.declared.Notes.{Notes}
use Rattle.notes.specs.Notes.{type_noted}
use Rattle.notes.specs.Steps.{stepped, reads, Good, Fine}
use Rattle.notes.proofs.Notings.{here}
use Rattle.notes.proofs.Stays.{good_at}
use Rattle.engine.specs.Engine.{placed}
use Rattle.engine.proofs.Steps.{spaces_fit}
use Rattle.straight.specs.Due.{made}
use Rattle.straight.specs.Exact.{leaf_of, end_of, by_tag, open_of, one_of, two_of, inside_of, may_of, Makes}
use Rattle.straight.proofs.Made.{made_met, once_ends, may_ends}
use Rattle.straight.proofs.Elements.{makes_by, child_once, end_is, end_placed, makes_then}

abbrev Going : Type 0
Going = Reading (Ended Notes)

-- ---- a start tag that is sought
module _ (m start : List ℕ) (p n : ℕ) (w : p ≤ length m) (e : n ≡ lead white (take (length m - p) (drop p m))) where
  pub sought_at : p + n ≡ skipped m p
  sought_at = ap (λ (i : ℕ). p + i) (e ∙ ap (lead white) (rest_of p m))

  pub sought_within : p + n ≤ length m
  sought_within = spaces_fit m p n w e

  pub sought_look : (l : Look) → l ≡ look (exactly start) (take (length m - (p + n)) (drop (p + n) m)) → l ≡ look (exactly start) (drop (p + n) m)
  sought_look l h = h ∙ ap (look (exactly start)) (rest_of (p + n) m)

-- ---- by how it lies
module _ (m : List ℕ) (p : ℕ) (x : Notes) (g : Good m (here p x)) (tag : List (ℕ → Bool)) (q : ℕ) (place : q ≡ skipped m p) (within : q ≤ length m)
    (l : Look) (e : l ≡ look tag (drop q m)) where
  later-place : p ≤ q
  later-place = omega (arith, place)

  pub tag_within : l ≡ Whole → q + length tag ≤ length m
  tag_within h = omega (arith, look_fits tag (drop q m) (sym e ∙ h), length-drop q m, within)

  -- the state at its `<`, or further on
  pub good_there : (z : ℕ) → z ≤ length m → (s : Ended Notes) → s ≡ here z x → Good m s
  good_there z h s i = rw i (good_at m (here p x) z g h)

  module _ (whole other : ℕ → Trace) (ps : List ℕ) where
    abbrev By : Going → List ℕ → Type 0
    By r y = Makes m (by_tag tag whole other m p) x ps r y

    is-by : (c : Look) → l ≡ c → on_look c (whole q) (fault 3 (length m)) (other q) ≡ by_tag tag whole other m p
    is-by c h = rw (← place, ← e, h) refl

    pub by_whole : l ≡ Whole → (r : Going) (y : List ℕ) → Makes m (whole q) x ps r y → By r y
    by_whole h r y i =
        makes_by 0 r (i.is ∙ ap (λ (t : Trace). reads t x) (is-by Whole h), i.fine, i.places ∙ ap (λ (t : Trace). placed t x ps) (is-by Whole h))

    pub by_cut : l ≡ Cut → (r : Going) → r ≡ stop 3 (length m) → By r ps
    by_cut h r i = makes_by p r (i ∙ ap (λ (t : Trace). reads t x) (is-by Cut h), rw i (omega arith), ap (λ (t : Trace). placed t x ps) (is-by Cut h))

    pub by_other : l ≡ Other → (r : Going) (y : List ℕ) → Makes m (other q) x ps r y → By r y
    by_other h r y i =
        makes_by 0 r (i.is ∙ ap (λ (t : Trace). reads t x) (is-by Other h), i.fine, i.places ∙ ap (λ (t : Trace). placed t x ps) (is-by Other h))

    -- it may be passed over
    pub by_passed : l ≡ Other → ((z : ℕ) → other z ≡ up_to z) → (r : Going) → r ≡ on (here q x) → By r ps
    by_passed h u r i =
        let t : other q ≡ up_to q = u q in
        by_other h r ps (makes_by q r (i ∙ ap (λ (a : Trace). reads a x) (sym t), rw i (good_at m (here p x) q g within, omega arith), ap (λ (a : Trace). placed a x ps) (sym t)))

  -- a group's start tag that is due
  module _ (start : List ℕ) (is : tag ≡ exactly start) where
    abbrev Opens : Going → Type 0
    Opens r = (r ≡ reads (open_of start m p) x) × Fine m p r

    open_is : (c : Look) → l ≡ c → on_look c (up_to (q + length start)) (fault 3 (length m)) (fault 4 q) ≡ open_of start m p
    unfolding open_of
    open_is c h = rw (← is, ← place, ← e, h) refl

    opened-by : (c : Look) → l ≡ c → (r : Going) → r ≡ reads (on_look c (up_to (q + length start)) (fault 3 (length m)) (fault 4 q)) x → Fine m p r → Opens r
    opened-by c h r i f = (i ∙ ap (λ (t : Trace). reads t x) (open_is c h), f)

    pub start_within : l ≡ Whole → q + length start ≤ length m
    start_within h = let z : look (exactly start) (drop q m) ≡ Whole = rw (← is) (sym e ∙ h) in omega (arith, text_fits start (drop q m) z, length-drop q m, within)

    pub open_whole : l ≡ Whole → (r : Going) → r ≡ on (here (q + length start) x) → Opens r
    open_whole h r i = opened-by Whole h r i (rw i (good_at m (here p x) (q + length start) g (start_within h), omega (arith, later-place)))

    pub open_cut : l ≡ Cut → (r : Going) → r ≡ stop 3 (length m) → Opens r
    open_cut h r i = opened-by Cut h r i (rw i (omega arith))

    pub open_other : l ≡ Other → (r : Going) → r ≡ stop 4 q → Opens r
    open_other h r i = opened-by Other h r i (rw i within)

-- the state as it is lent
pub makes_at : (m : List ℕ) (t : ℕ → Trace) (s : Ended Notes) (z : ℕ) (x : Notes) → s ≡ here z x → (l : List ℕ) (r : Going) (y : List ℕ) → Makes m (t s.at) s.notes l r y
    → Makes m (t z) x l r y
makes_at m t s z x e l r y i = rw e at i

-- ---- parts one behind another
-- a start tag notes no place
open_placed : (m start : List ℕ) (p : ℕ) (x : Notes) (l : List ℕ) → placed (open_of start m p) x l ≡ l
unfolding open_of
open_placed m start p x l = go (look (exactly start) (drop (skipped m p) m))
  where
    go : (c : Look) → placed (on_look c (up_to (skipped m p + length start)) (fault 3 (length m)) (fault 4 (skipped m p))) x l ≡ l
    go Whole = refl
    go Cut = refl
    go Other = refl

-- a tag notes no place
pub opened : {m : List ℕ} {x : Notes} {l : List ℕ} {r : Going} (start : List ℕ) (p : ℕ) → (r ≡ reads (open_of start m p) x) × Fine m p r → Makes m (open_of start m p) x l r l
opened {m = m} {x = x} {l = l} {r = r} start p i = makes_by p r (i.0, i.1, sym (open_placed m start p x l))

pub ended : {m : List ℕ} {x : Notes} {l : List ℕ} {r : Going} (finish : List ℕ) (p : ℕ) → (r ≡ reads (end_of finish m p) x) × Fine m p r → Makes m (end_of finish m p) x l r l
ended {m = m} {x = x} {l = l} {r = r} finish p i = makes_by p r (i.0, i.1, sym (end_placed m finish p x l))

-- parts one behind another: the first is read, and then the next
module _ {m : List ℕ} {t : Trace} (u : ℕ → Trace) {x : Notes} {l y : List ℕ} where
  pub next : {s : Ended Notes} {a : Going} {b : List ℕ} → Makes m t x l (on s) y → Makes m (u s.at) s.notes y a b → Makes m (and_then t u) x l a b
  next {s = s} {a = a} {b = b} i j = makes_then m x l t u (on s) y i a b (j.is, j.fine, j.places)

  -- or it is refused, and so is the whole
  pub refused : {n q : ℕ} → Makes m t x l (stop n q) y → Makes m (and_then t u) x l (stop n q) y
  refused {n = n} {q = q} i = makes_then m x l t u (stop n q) y i (stop n q) y (refl, i.fine, refl)

-- the same trace
pub same_is : {m : List ℕ} {t u : Trace} {x : Notes} {l : List ℕ} {r : Going} {y : List ℕ} → t ≡ u → Makes m t x l r y → Makes m u x l r y
same_is e i = rw e at i

-- the error that `?` hands on is the one that came
pub handed : (P : Going → Type 0) (r : Refused) (z : Result State Refused) → IsErrAnd z (λ e. e ≡ r) → P (stepped (Err r)) → P (stepped z)
handed P r z h i = let w = err_from_is_err_and z h in rw (w.1, w.2) i

pub handed_on : {m : List ℕ} {t : Trace} {x : Notes} {l y : List ℕ} (r : Refused) (z : Result State Refused) → IsErrAnd z (λ e. e ≡ r) → Makes m t x l (stepped (Err r)) y
    → Makes m t x l (stepped z) y
handed_on r z h i = let w = err_from_is_err_and z h in rw (w.1, w.2) i

-- ---- the definition
pub then_each : (t : Trace) (f g : ℕ → Trace) → ((p : ℕ) → f p ≡ g p) → and_then t f ≡ and_then t g
then_each (met e t) f g h = ap (met e) (then_each t f g h)
then_each (up_to p) f g h = h p
then_each (fault n q) f g h = refl

pub next_is : (t : Trace) (g h k : ℕ → Trace) → ((p : ℕ) → g p ≡ and_then (h p) k) → and_then t g ≡ and_then (and_then t h) k
next_is t g h k e = then_each t g (λ p. and_then (h p) k) e ∙ sym (then_then t h k)

module _ (m : List ℕ) where
  -- a group of which what it holds is known
  pub group_is : (n : String) (inner rest : Shape) (t : ℕ → Trace) → ((p : ℕ) → trace inner m p ≡ t p) → (p : ℕ)
      → trace (group once n inner rest) m p ≡ and_then (and_then (open_of (plain_tag n) m p) t) (trace rest m)
  unfolding open_of
  group_is n inner rest t h p = go (look (exactly (plain_tag n)) (drop (skipped m p) m))
    where
      q : ℕ
      q = skipped m p

      go : (c : Look) → on_look c (and_then (and_then (trace inner m (q + length (plain_tag n))) (ends once)) (trace rest m)) (fault 3 (length m)) (fault 4 q)
          ≡ and_then (and_then (on_look c (up_to (q + length (plain_tag n))) (fault 3 (length m)) (fault 4 q)) t) (trace rest m)
      go Whole = ap (λ (u : Trace). and_then u (trace rest m)) (once_ends (trace inner m (q + length (plain_tag n))) ∙ h (q + length (plain_tag n)))
      go Cut = refl
      go Other = refl

  module _ (k : Kind) (f : Field) (no : is_amount k ≡ false) where
    pub inside_is : (n1 n2 : String) (p : ℕ) → trace (leaf once n2 k f (end n1)) m p ≡ inside_of (plain_tag n2) (end_tag n2) (end_tag n1) k f m p
    inside_is n1 n2 p =
        child_once n2 k f (end n1) m no p ∙ then_each (leaf_of false (plain_tag n2) (end_tag n2) k f m p) (trace (end n1) m) (end_of (end_tag n1) m) (end_is m n1)

    pub one_is : (n1 n2 : String) (rest : Shape) (p : ℕ)
        → trace (group once n1 (leaf once n2 k f (end n1)) rest) m p ≡ and_then (one_of (plain_tag n1) (plain_tag n2) (end_tag n2) (end_tag n1) k f m p) (trace rest m)
    one_is n1 n2 rest p =
        group_is n1 (leaf once n2 k f (end n1)) rest (inside_of (plain_tag n2) (end_tag n2) (end_tag n1) k f m) (inside_is n1 n2) p
        ∙ ap (λ (u : Trace). and_then u (trace rest m)) (sym (then_then (open_of (plain_tag n1) m p) (leaf_of false (plain_tag n2) (end_tag n2) k f m) (end_of (end_tag n1) m)))

    pub two_is : (n1 n2 n3 : String) (rest : Shape) (p : ℕ)
        → trace (group once n1 (group once n2 (leaf once n3 k f (end n2)) (end n1)) rest) m p
        ≡ and_then (two_of (plain_tag n1) (plain_tag n2) (plain_tag n3) (end_tag n3) (end_tag n2) (end_tag n1) k f m p) (trace rest m)
    two_is n1 n2 n3 rest p =
        let one = one_of (plain_tag n2) (plain_tag n3) (end_tag n3) (end_tag n2) k f m in
        group_is n1 (group once n2 (leaf once n3 k f (end n2)) (end n1)) rest (λ z. and_then (one z) (end_of (end_tag n1) m))
        (λ z. one_is n2 n3 (end n1) z ∙ then_each (one z) (trace (end n1) m) (end_of (end_tag n1) m) (end_is m n1)) p
        ∙ ap (λ (u : Trace). and_then u (trace rest m)) (sym (then_then (open_of (plain_tag n1) m p) one (end_of (end_tag n1) m)))

    -- where the group is 0 or 1, and not the payment type
    pub may_is : (n1 n2 : String) → is_type n1 ≡ false → (rest : Shape) (p : ℕ) (x : Notes) (l : List ℕ)
        → made (trace (group optional n1 (leaf once n2 k f (end n1)) rest) m p) x l ≡ made (and_then (may_of (plain_tag n1) (plain_tag n2) (end_tag n2) (end_tag n1) k f m p) (trace rest m)) x l
    unfolding may_of
    may_is n1 n2 z rest p x l = go (look (exactly (plain_tag n1)) (drop (skipped m p) m))
      where
        q : ℕ
        q = skipped m p

        a : ℕ
        a = q + length (plain_tag n1)

        inner : Trace
        inner = trace (leaf once n2 k f (end n1)) m a

        quiet : (b : Bool) → pick (is_type n1) (type_noted b q x) (on x) ≡ on x
        quiet b = ap (λ (c : Bool). pick c (type_noted b q x) (on x)) z

        go : (c : Look) → made (on_look c (met (there n1 at q) (and_then (and_then inner (ends optional)) (trace rest m))) (fault 3 (length m)) (met (absent n1 at q) (trace rest m q))) x l
            ≡ made (and_then (on_look c (inside_of (plain_tag n2) (end_tag n2) (end_tag n1) k f m a) (fault 3 (length m)) (up_to q)) (trace rest m)) x l
        go Whole =
            made_met (there n1 at q) (and_then (and_then inner (ends optional)) (trace rest m)) x x l (quiet true)
            ∙ ap (λ (u : Trace). made (and_then u (trace rest m)) x l) (may_ends inner ∙ inside_is n1 n2 a)
        go Cut = refl
        go Other = made_met (absent n1 at q) (trace rest m q) x x l (quiet false)
