-- What is made of a trace: one part behind another, and an entry before the rest.
use Rattle.std.proofs.Common.{◌≡◌, ℕ, List, sym, refl, ap, ◌∙◌}
use Rattle.reading.specs.Trace.{Entry, Trace, met, up_to, fault, and_then, ends}
use Rattle.profile.specs.Tree.{once, optional}
use Rattle.reading.specs.Noted.{Reading, on, stop, onward, Ended}
use Rattle.reading.proofs.Flat.{noted_then, then_then}
use Rattle.notes.specs.declared.Notes.{Notes}
use Rattle.notes.specs.Notes.{in_notes}
use Rattle.notes.specs.Steps.{reads}
use Rattle.engine.specs.Engine.{filed_of, or_else, placed}
use Rattle.engine.proofs.Placed.{then_placed}
use Rattle.straight.specs.Due.{Made, made}

pub made_of : {a b : Reading (Ended Notes)} {c d : List ℕ} → a ≡ b → c ≡ d → ◌≡◌ {A = Made} (record { notes = a; places = c }) (record { notes = b; places = d })
made_of {a} {b} {c} {d} e f =
    ap (λ (u : Reading (Ended Notes)). record { notes = u; places = c }) e ∙ ap (λ (u : List ℕ). record { notes = b; places = u }) f

-- what is made of the rest, where reading goes on
abbrev then_made : Made → (ℕ → Trace) → Made
then_made a f =
    record {
      notes = onward a.notes (λ s. reads (f s.at) s.notes);
      places = or_else a.notes (λ s. placed (f s.at) s.notes a.places) a.places;
    }

made_then : (t : Trace) (f : ℕ → Trace) (x : Notes) (l : List ℕ) → made (and_then t f) x l ≡ then_made (made t x l) f
made_then t f x l = made_of (noted_then in_notes t f x) (then_placed t f x l)

-- the same made of what follows
abbrev pub Alike : (ℕ → Trace) → (ℕ → Trace) → Type 0
Alike f g = (p : ℕ) (x : Notes) (l : List ℕ) → made (f p) x l ≡ made (g p) x l

pub made_same : (t : Trace) (f g : ℕ → Trace) (x : Notes) (l : List ℕ) → Alike f g → made (and_then t f) x l ≡ made (and_then t g) x l
made_same t f g x l h = made_then t f x l ∙ (go (reads t x) (placed t x l) ∙ sym (made_then t g x l))
  where
    go : (r : Reading (Ended Notes)) (b : List ℕ) → then_made (record { notes = r; places = b }) f ≡ then_made (record { notes = r; places = b }) g
    go (on s) b = h s.at s.notes b
    go (stop n p) b = refl

-- an entry that passes
pub made_met : (e : Entry) (t : Trace) (x y : Notes) (l : List ℕ) → in_notes e x ≡ on y → made (met e t) x l ≡ made t y (filed_of e.what e.place l)
made_met e t x y l h =
    made_of (ap (λ (r : Reading Notes). onward r (reads t)) h)
    (ap (λ (r : Reading Notes). or_else r (λ u. placed t u (filed_of e.what e.place l)) l) h)

-- an element's end says nothing, but of an item
pub once_ends : (t : Trace) → and_then t (ends once) ≡ t
once_ends (met e t) = ap (met e) (once_ends t)
once_ends (up_to p) = refl
once_ends (fault n q) = refl

pub may_ends : (t : Trace) → and_then t (ends optional) ≡ t
may_ends (met e t) = ap (met e) (may_ends t)
may_ends (up_to p) = refl
may_ends (fault n q) = refl

-- and what is due behind it is due behind it
pub unwrapped : (t : Trace) (e rest k : ℕ → Trace) → and_then t e ≡ t → and_then (and_then (and_then t e) rest) k ≡ and_then t (λ p. and_then (rest p) k)
unwrapped t e rest k h = ap (λ (u : Trace). and_then (and_then u rest) k) h ∙ then_then t rest k

pub then_up_to : (t : Trace) → and_then t up_to ≡ t
then_up_to (met e t) = ap (met e) (then_up_to t)
then_up_to (up_to p) = refl
then_up_to (fault n q) = refl
