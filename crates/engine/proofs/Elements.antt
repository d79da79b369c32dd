-- An element that comes or does not, and its start tag: what is read, whatever follows.
use mathlib.Core.Path.{◌≡◌, refl, sym, ap, ◌∙◌}
use mathlib.Core.Bool.{Bool, true, false}
use mathlib.Core.List.{List}
use Prim.Native.Nat.{ℕ, ◌+◌, ◌-◌, ◌≤◌}
use Prim.Native.String.{String}
use native.Mathlib.Omega.{arith}
use lib.ListN.{length, drop, length-drop}
use Rattle.text.specs.Truth.{pick}
use Rattle.tags.specs.declared.Look.{Look}
use Rattle.tags.specs.declared.Look.TheVariants.{Whole, Cut, Other}
use Rattle.tags.specs.Tags.{skipped, look, currency_place, in_euro, on_look}
use Rattle.tags.proofs.Looks.{look_fits}
use Rattle.profile.specs.Tree.{Occ, once, optional, many, more}
use Rattle.profile.specs.Profile.{is_type}
use Rattle.reading.specs.Trace.{Trace, up_to, fault, begins, missing, priced, and_then, turn}
use Rattle.reading.specs.Noted.{Reading, on, stop, onward, Ended}
use Rattle.notes.specs.declared.Notes.{Notes}
use Rattle.notes.specs.Notes.{item_noted, type_noted, in_notes}
use Rattle.notes.specs.Steps.{staying, reads, Good, Fine}
use Rattle.notes.proofs.Notings.{here}
use Rattle.notes.proofs.Stays.{begun_fine, type_fine}
use Rattle.reading.proofs.Flat.{noted_then}

abbrev Found : Type 0
Found = Reading (Ended Notes)

-- ---- an element that comes or does not: what is noted first, and then reading goes on in whatever way
then_on : (p : ℕ) (t : ℕ → Trace) (x : Reading Notes) → onward x (reads (t p)) ≡ onward (staying p x) (λ r. reads (t r.at) r.notes)
then_on p t (on u) = refl
then_on p t (stop i q) = refl

-- where an element is 0 or 1, its name counts by whether it is the payment type's
abbrev pub typed : Bool → Bool → ℕ → Notes → Reading Notes
typed c b p n = pick c (type_noted b p n) (on n)

typed_fine : (m : List ℕ) (c b : Bool) (p : ℕ) (n : Notes) → Good m (here p n) → Fine m p (staying p (typed c b p n))
typed_fine m true b p n g = type_fine m p n g b
typed_fine m false b p n g = (g, omega arith)

-- a is the element's name, and b one that stands for it
module _ (o : Occ) (a b : String) (e : is_type a ≡ is_type b) (p : ℕ) where
  named : (c : Bool) (n : Notes) → typed (is_type a) c p n ≡ typed (is_type b) c p n
  named c n = ap (λ (i : Bool). typed i c p n) e

  pub reads_begins : (t : Trace) (n : Notes) → reads (begins o a p t) n ≡ onward (reads (begins o b p (up_to p)) n) (λ r. reads t r.notes)
  reads_begins t n = go o
    where
      go : (o : Occ) → reads (begins o a p t) n ≡ onward (reads (begins o b p (up_to p)) n) (λ r. reads t r.notes)
      go once = refl
      go optional = then_on p (λ q. t) (typed (is_type a) true p n) ∙ ap (λ (x : Reading Notes). onward (staying p x) (λ r. reads t r.notes)) (named true n)
      go many = then_on p (λ q. t) (item_noted p n)
      go more = then_on p (λ q. t) (item_noted p n)

  pub reads_missing : (t : ℕ → Trace) (n : Notes) → reads (missing o a p (t p)) n ≡ onward (reads (missing o b p (up_to p)) n) (λ r. reads (t r.at) r.notes)
  reads_missing t n = go o
    where
      go : (o : Occ) → reads (missing o a p (t p)) n ≡ onward (reads (missing o b p (up_to p)) n) (λ r. reads (t r.at) r.notes)
      go once = refl
      go optional = then_on p t (typed (is_type a) false p n) ∙ ap (λ (x : Reading Notes). onward (staying p x) (λ r. reads (t r.at) r.notes)) (named false n)
      go many = refl
      go more = refl

pub begins_fine : (m : List ℕ) (o : Occ) (s : String) (p : ℕ) (n : Notes) → Good m (here p n) → Fine m p (reads (begins o s p (up_to p)) n)
begins_fine m once s p n g = (g, omega arith)
begins_fine m optional s p n g = typed_fine m (is_type s) true p n g
begins_fine m many s p n g = begun_fine m p n g
begins_fine m more s p n g = begun_fine m p n g

pub missing_fine : (m : List ℕ) (o : Occ) (s : String) (p : ℕ) (n : Notes) → Good m (here p n) → Fine m p (reads (missing o s p (up_to p)) n)
missing_fine m once s p n g = g.within
missing_fine m optional s p n g = typed_fine m (is_type s) false p n g
missing_fine m many s p n g = g.within
missing_fine m more s p n g = (g, omega arith)

-- where a start tag lies whole, it lies within the message
pub enter_fits : (t : List (ℕ → Bool)) (m : List ℕ) (p : ℕ) → p ≤ length m → Whole ≡ look t (drop p m) → p + length t ≤ length m
enter_fits t m p h e = omega (arith, look_fits t (drop p m) (sym e), length-drop p m)

-- ---- entering
module _ (m : List ℕ) (p : ℕ) (n : Notes) (b : Bool) (e : b ≡ in_euro m p) where
  pub in_euro_lem : b ≡ true → on (here p n) ≡ reads (priced true m p) n
  in_euro_lem h = rw (← e, h)

  pub no_euro : b ≡ false → (q : ℕ) → q ≡ currency_place p → stop 6 q ≡ reads (priced true m p) n
  no_euro h q f = rw (← e, h, f)

pub priced_fine : (m : List ℕ) (amount : Bool) (p : ℕ) (n : Notes) → Good m (here p n) → Fine m p (reads (priced amount m p) n)
unfolding currency_place
priced_fine m false p n g = (g, omega arith)
priced_fine m true p n g = go (in_euro m p)
  where
    go : (b : Bool) → Fine m p (reads (pick b (up_to p) (fault 6 (p - 5))) n)
    go true = (g, omega arith)
    go false = omega (arith, g.within)

-- ---- by how a start tag lies; a is a name in place of the element's
pub turn_reads : (m : List ℕ) (o : Occ) (n a : String) → is_type n ≡ is_type a → (tag : List (ℕ → Bool)) (body next rest : ℕ → Trace) (p : ℕ) (x : Notes)
    → reads (turn o n tag m body next rest p) x
    ≡ on_look (look tag (drop (skipped m p) m)) (onward (reads (body (skipped m p)) x) (λ r. reads (next r.at) r.notes))
    (stop 3 (length m)) (onward (reads (missing o a (skipped m p) (up_to (skipped m p))) x) (λ r. reads (rest r.at) r.notes))
turn_reads m o n a e tag body next rest p x = go (look tag (drop (skipped m p) m))
  where
    q : ℕ
    q = skipped m p

    go : (l : Look) → reads (on_look l (and_then (body q) next) (fault 3 (length m)) (missing o n q (rest q))) x
        ≡ on_look l (onward (reads (body q) x) (λ r. reads (next r.at) r.notes))
        (stop 3 (length m)) (onward (reads (missing o a q (up_to q)) x) (λ r. reads (rest r.at) r.notes))
    go Whole = noted_then in_notes (body q) next x
    go Cut = refl
    go Other = reads_missing o n a e q rest x
