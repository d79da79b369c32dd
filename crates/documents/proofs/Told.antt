-- What a trace tells: it breaks off nowhere, ends at a place, and what is met is a list.
use mathlib.Core.Path.{◌≡◌, refl, ap, ◌∙◌}
use mathlib.Core.List.{List, ◌∷◌, ◌++◌}
use Prim.Native.Nat.{ℕ}
use Rattle.reading.specs.Trace.{What, Trace, met, up_to, fault, and_then}
use Rattle.reading.specs.Judged.{whats}
use Rattle.reading.proofs.Flat.{flat, Whole}

pub record Told (t : Trace) (q : ℕ) (ws : List What) : Type 0 where
  pub whole : Whole t q
  pub says : whats (flat t) ≡ ws

-- one part and then another
pub told_then : (t : Trace) (g : ℕ → Trace) (p q : ℕ) (a b : List What) → Told t p a → Told (g p) q b → Told (and_then t g) q (a ++ b)
told_then (met e t) g p q a b h k =
    let r = told_then t g p q (whats (flat t)) b (record { whole = h.whole; says = refl }) k in
    record { whole = r.whole; says = ap (λ (l : List What). e.what ∷ l) r.says ∙ ap (λ (l : List What). l ++ b) h.says }
told_then (up_to r) g p q a b h k = rw (h.whole, ← h.says) k
told_then (fault n r) g p q a b h k = absurd h.whole

-- the same, ending at a place or telling a list that is said in another way
pub told_as : {t : Trace} {p q : ℕ} {a b : List What} → p ≡ q → a ≡ b → Told t p a → Told t q b
told_as e f h = rw (← e, ← f) h
