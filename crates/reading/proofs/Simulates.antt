-- Two ways of noting, side by side: what each entry keeps, going along the whole of what stands in a message keeps.
use mathlib.Core.Path.{◌≡◌, refl}
use Prim.Native.Nat.{ℕ}
use Rattle.reading.specs.Trace.{Entry, Trace, met, up_to, fault}
use Rattle.reading.specs.Noted.{Reading, on, stop, onward, Ended, Noting, noted}

-- both go on, in states that R relates; or both stop, with one number and place
pub data Alike {S T : Type 0} (R : S → T → Type 0) : Reading S → Reading T → Type 0 where
  going : {s : S} {t : T} → R s t → Alike R (on s) (on t)
  stopped : {n p : ℕ} → Alike R (stop n p) (stop n p)

pub record Beside {S T : Type 0} (R : S → T → Type 0) (a : Ended S) (b : Ended T) : Type 0 where
  pub at : a.at ≡ b.at
  pub notes : R a.notes b.notes

module _ {S T : Type 0} (R : S → T → Type 0) (f : Noting S) (g : Noting T) where
  abbrev pub Keeps : Type 0
  Keeps = (e : Entry) (s : S) (t : T) → R s t → Alike R (f e s) (g e t)

  pub simulates : Keeps → (x : Trace) (s : S) (t : T) → R s t → Alike (Beside R) (noted f x s) (noted g x t)
  simulates k (up_to p) s t r = going (record { at = refl; notes = r })
  simulates k (fault n q) s t r = stopped
  simulates k (met e x) s t r = go (simulates k x) (f e s) (g e t) (k e s t r)
    where
      go : ((s : S) (t : T) → R s t → Alike (Beside R) (noted f x s) (noted g x t))
          → (a : Reading S) (b : Reading T) → Alike R a b → Alike (Beside R) (onward a (noted f x)) (onward b (noted g x))
      go h a b (going {s} {t} r) = h s t r
      go h a b stopped = stopped
