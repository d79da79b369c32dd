-- What was read of a message, and of the same message with a slip in one value: two lists that are the same but for that value.
use mathlib.Core.Path.{◌≡◌, ap}
use mathlib.Core.Logic.{inl, inr}
use mathlib.Core.List.{List, [], ◌∷◌, ◌++◌}
use Prim.Native.Nat.{ℕ}
use Rattle.profile.specs.declared.Kind.{Kind}
use Rattle.profile.specs.declared.Field.{Field}
use Rattle.reading.specs.Trace.{value, Entry, ◌at◌, Trace}
use Rattle.reading.proofs.Flat.{flat, Whole}
use Rattle.reading.proofs.Each.{AllIn}
use Rattle.replaced.proofs.Beside.{Beside, same, here, past}
use Rattle.slips.specs.Slip.{In}

pub all_in : {A : Type 0} (P : A → Type 0) (x : A) (l : List A) → AllIn P l → In x l → P x
all_in P x (y ∷ l) h (inl e) = rw e h.0
all_in P x (y ∷ l) h (inr i) = all_in P x l h.1 i
all_in P x [] h i = absurd i

pub record Parted {A : Type 0} (x : A) (l : List A) : Type 0 where
  pub front : List A
  pub back : List A
  pub is : l ≡ front ++ (x ∷ back)

pub parted : {A : Type 0} (x : A) (l : List A) → In x l → Parted x l
parted x (y ∷ l) (inl e) = record { front = []; back = l; is = rw e }
parted {A} x (y ∷ l) (inr i) = let r = parted x l i in record { front = y ∷ r.front; back = r.back; is = ap (λ (t : List A). y ∷ t) r.is }
parted x [] i = absurd i

-- the same entries before and behind
pub record Changed (k : Kind) (f : Field) (q : ℕ) (v w : List ℕ) (l l' : List Entry) : Type 0 where
  pub front : List Entry
  pub back : List Entry
  pub is : l ≡ front ++ ((value k f v at q) ∷ back)
  pub becomes : l' ≡ front ++ ((value k f w at q) ∷ back)

module _ (Fit : Kind → Field → Type 0) (k : Kind) (f : Field) (q : ℕ) (v w : List ℕ) where
  pub beside_whole : {t t' : Trace} (p : ℕ) → Beside Fit v w t t' → Whole t p → Whole t' p
  beside_whole p same h = h
  beside_whole p (here x) h = h
  beside_whole p (past n) h = beside_whole p n h

  -- the value that is met in the one and not in the other is the one that differs
  pub beside_changed : {t t' : Trace} → Beside Fit v w t t' → In (value k f v at q) (flat t) → (In (value k f v at q) (flat t') → ⊥) → Changed k f q v w (flat t) (flat t')
  beside_changed same i no_more = absurd (no_more i)
  beside_changed (here {k = j} {f = g} {q = p} {t = t} x) (inr i) no_more = absurd (no_more (inr i))
  beside_changed (here {k = j} {f = g} {q = p} {t = t} x) (inl e) no_more =
      let a : value k f v ≡ value j g v = ap (λ (y : Entry). y.what) e in
      let b : q ≡ p = ap (λ (y : Entry). y.place) e in
      let c : j ≡ k = cc in
      let d : g ≡ f = cc in
      record { front = []; back = flat t; is = rw (c, d, ← b); becomes = rw (c, d, ← b) }
  beside_changed (past {e = y} n) (inl e) no_more = absurd (no_more (inl e))
  beside_changed (past {e = y} n) (inr i) no_more =
      let r = beside_changed n i (λ j. no_more (inr j)) in
      record {
        front = y ∷ r.front;
        back = r.back;
        is = ap (λ (l : List Entry). y ∷ l) r.is;
        becomes = ap (λ (l : List Entry). y ∷ l) r.becomes;
      }
