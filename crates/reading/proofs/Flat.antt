-- A trace as the list of its entries; and what a reading that goes on has read: all that stands there, in order, part by part.
use mathlib.Core.Path.{◌≡◌, refl, sym, ap, ◌∙◌}
use mathlib.Core.List.{List, [], ◌∷◌, ◌++◌, append-nil, append_assoc}
use Prim.Native.Nat.{ℕ}
pub use Rattle.text.proofs.Truths.{never}
use Rattle.answers.specs.Given.{Given, yes, worth, refused as no}
use Rattle.reading.specs.Trace.{Entry, Trace, met, up_to, fault, and_then}
use Rattle.reading.specs.Noted.{Reading, on, stop, onward, Ended, Noting, noted}
use Rattle.reading.specs.Rules.{weighed}
use Rattle.reading.specs.Judged.{whats, or_refused, listed}

-- the entries of a trace, in order
abbrev pub flat : Trace → List Entry
flat (met e t) = e ∷ flat t
flat (up_to p) = []
flat (fault n q) = []

-- a trace that breaks off nowhere, and where it ends
abbrev pub Whole : Trace → ℕ → Type 0
Whole (met e t) q = Whole t q
Whole (up_to p) q = p ≡ q
Whole (fault n p) q = ⊥

pub one_end : (t : Trace) (p q : ℕ) → Whole t p → Whole t q → p ≡ q
one_end (met e t) p q a b = one_end t p q a b
one_end (up_to r) p q a b = sym a ∙ b
one_end (fault n r) p q a b = absurd a

pub record Split (t : Trace) (g : ℕ → Trace) (q : ℕ) : Type 0 where
  pub mid : ℕ
  pub first : Whole t mid
  pub then : Whole (g mid) q
  pub entries : flat (and_then t g) ≡ flat t ++ flat (g mid)

pub split : (t : Trace) (g : ℕ → Trace) (q : ℕ) → Whole (and_then t g) q → Split t g q
split (up_to p) g q w = record { mid = p; first = refl; then = w; entries = refl }
split (fault n p) g q w = absurd w
split (met e t) g q w =
    let s = split t g q w in
    record { mid = s.mid; first = s.first; then = s.then; entries = ap (λ (l : List Entry). e ∷ l) s.entries }

pub then_then : (t : Trace) (f g : ℕ → Trace) → and_then (and_then t f) g ≡ and_then t (λ p. and_then (f p) g)
then_then (met e t) f g = ap (met e) (then_then t f g)
then_then (up_to p) f g = refl
then_then (fault n q) f g = refl

-- ---- noting one part and then what follows it
pub noted_then : {S : Type 0} (note : Noting S) (t : Trace) (g : ℕ → Trace) (s : S)
    → noted note (and_then t g) s ≡ onward (noted note t s) (λ r. noted note (g r.at) r.notes)
noted_then note (up_to p) g s = refl
noted_then note (fault n q) g s = refl
noted_then {S} note (met e t) g s = go (noted_then note t g) (note e s)
  where
    go : ((u : S) → noted note (and_then t g) u ≡ onward (noted note t u) (λ r. noted note (g r.at) r.notes))
        → (x : Reading S) → onward x (noted note (and_then t g)) ≡ onward (onward x (noted note t)) (λ r. noted note (g r.at) r.notes)
    go h (on u) = h u
    go h (stop n p) = refl

pub same_end : {S : Type 0} (a b : S) → ◌≡◌ {A = Reading S} (on a) (on b) → a ≡ b
same_end a b e = cc

pub record Through {S T : Type 0} (x : Reading S) (f : S → Reading T) (r : T) : Type 0 where
  pub mid : S
  pub first : x ≡ on mid
  pub then : f mid ≡ on r

pub through : {S T : Type 0} (x : Reading S) (f : S → Reading T) (r : T) → onward x f ≡ on r → Through x f r
through (on s) f r e = record { mid = s; first = refl; then = e }
through (stop n p) f r e = never (cc)

-- ---- a list reading that goes on
abbrev pub Goes : Trace → List Entry → Ended (List Entry) → Type 0
Goes t es r = noted listed t es ≡ on r

pub goes_through : (t : Trace) (g : ℕ → Trace) (es : List Entry) (r : Ended (List Entry)) → Goes (and_then t g) es r
    → Through (noted listed t es) (λ (u : Ended (List Entry)). noted listed (g u.at) u.notes) r
goes_through t g es r e = through (noted listed t es) (λ u. noted listed (g u.at) u.notes) r (sym (noted_then listed t g es) ∙ e)

-- an entry that was taken is the last of the list
pub taken : (e : Entry) (es u : List Entry) → listed e es ≡ on u → u ≡ es ++ (e ∷ [])
taken e es u = go (weighed (whats es) e.what)
  where
    go : (g : Given) → or_refused g e.place (es ++ (e ∷ [])) ≡ on u → u ≡ es ++ (e ∷ [])
    go yes h = cc
    go (worth n) h = cc
    go (no n) h = never (cc)

pub goes_flat : (t : Trace) (es : List Entry) (r : Ended (List Entry)) → Goes t es r → r.notes ≡ es ++ flat t
goes_flat (up_to p) es r e =
    let z : record { at = p; notes = es } ≡ r = same_end (record { at = p; notes = es }) r e in
    rw (← z) (sym (append-nil es))
goes_flat (fault n q) es r e = never (cc)
goes_flat (met x t) es r e =
    let h = through (listed x es) (noted listed t) r e in
    goes_flat t h.mid r h.then ∙ rw (taken x es h.mid h.first) (append_assoc es (x ∷ []) (flat t))

pub goes_whole : (t : Trace) (es : List Entry) (r : Ended (List Entry)) → Goes t es r → Whole t r.at
goes_whole (up_to p) es r e = cc
goes_whole (fault n q) es r e = never (cc)
goes_whole (met x t) es r e =
    let h = through (listed x es) (noted listed t) r e in
    goes_whole t h.mid r h.then
