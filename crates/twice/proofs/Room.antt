-- A free slot is met: of n slots fewer than n are taken, and the walk comes to each.
use Rattle.std.proofs.Common.{◌≡◌, ℕ, zero, suc, ◌+◌, ◌-◌, ◌%◌, ◌<◌, ◌≤◌, Bool, true, false, eqb, refl, ⊎_elim, arith, eq-eqb, eqb-true}
use native.Mathlib.Decide.{ℕ_discrete}
use Rattle.text.specs.Truth.{pick}
use Rattle.text.proofs.Truths.{never, lt_or_ge}
use Rattle.twice.specs.Twice.{least_index}
use Rattle.twice.specs.Engine.{slot_at, walk_from}

-- how many of the first n are taken
abbrev pub taken : (ℕ → ℕ) → ℕ → ℕ
taken t zero = 0
taken t (suc n) = pick (eqb (t n) 0) (taken t n) (suc (taken t n))

pub taken_none : (t : ℕ → ℕ) (n : ℕ) → ((s : ℕ) → s < n → t s ≡ 0) → taken t n ≡ 0
taken_none t zero h = refl
taken_none t (suc n) h = rw (eq-eqb (t n) 0 (h n (omega arith))) (taken_none t n (λ s g. h s (omega arith)))

taken_same : (t u : ℕ → ℕ) (n : ℕ) → ((s : ℕ) → s < n → u s ≡ t s) → taken u n ≡ taken t n
taken_same t u zero h = refl
taken_same t u (suc n) h = rw (h n (omega arith), taken_same t u n (λ s g. h s (omega arith)))

-- where one slot is written, at most one more is taken
pub taken_one : (t u : ℕ → ℕ) (z : ℕ) → ((s : ℕ) → (s ≡ z → ⊥) → u s ≡ t s) → (n : ℕ) → taken u n ≤ suc (taken t n)
taken_one t u z h zero = omega arith
taken_one t u z h (suc n) =
    elim (ℕ_discrete n z) [
      | yes e ↦ here (eqb (u n) 0) (eqb (t n) 0) (taken_same t u n (λ s g. h s (λ x. omega arith)))
      | no ne ↦ rw (h n ne) (on (eqb (t n) 0) (taken_one t u z h n))
    ]
  where
    here : (a b : Bool) → taken u n ≡ taken t n → pick a (taken u n) (suc (taken u n)) ≤ suc (pick b (taken t n) (suc (taken t n)))
    here true true e = omega arith
    here true false e = omega arith
    here false true e = omega arith
    here false false e = omega arith

    on : (b : Bool) → taken u n ≤ suc (taken t n) → pick b (taken u n) (suc (taken u n)) ≤ suc (pick b (taken t n) (suc (taken t n)))
    on true g = g
    on false g = omega arith

pub record Free (t : ℕ → ℕ) (n : ℕ) : Type 0 where
  pub slot : ℕ
  pub within : slot < n
  pub free : t slot ≡ 0

pub some_free : (t : ℕ → ℕ) (n : ℕ) → taken t n < n → Free t n
some_free t zero h = never (omega arith)
some_free t (suc n) h = go (eqb (t n) 0) refl (some_free t n) h
  where
    go : (b : Bool) → eqb (t n) 0 ≡ b → (taken t n < n → Free t n) → pick b (taken t n) (suc (taken t n)) < suc n → Free t (suc n)
    go true e i g = record { slot = n; within = omega arith; free = eqb-true (t n) 0 e }
    go false e i g =
        let x = i (omega arith) in
        record { slot = x.slot; within = omega (arith, x.within); free = x.free }

-- the walk from any mix comes to every slot
pub record Reached (h slot : ℕ) : Type 0 where
  pub step : ℕ
  pub within : step < least_index
  pub reached : slot_at h step ≡ slot

pub reach : (h slot : ℕ) → slot < least_index → Reached h slot
unfolding least_index slot_at
reach h slot g =
    ⊎_elim
    (λ l. record { step = slot + 16384 - h % 16384; within = omega arith; reached = omega arith })
    (λ l. record { step = slot - h % 16384; within = omega arith; reached = omega arith })
    (lt_or_ge slot (h % 16384))

-- a walk that something stops: it goes on past all before where it stops
pub record Stopped (f : ℕ → Bool) (from step : ℕ) : Type 0 where
  pub stopped : f step ≡ false
  pub before : (k : ℕ) → from ≤ k → k < step → f k ≡ true

pub stops : (f : ℕ → Bool) (left from e : ℕ) → from ≤ e → e < from + left → f e ≡ false → Stopped f from (walk_from f from left)
stops f zero from e g h x = never (omega arith)
stops f (suc left) from e g h x = go (f from) refl (λ y. stops f left (suc from) e y (omega arith) x)
  where
    go : (b : Bool) → f from ≡ b → (suc from ≤ e → Stopped f (suc from) (walk_from f (suc from) left))
        → Stopped f from (pick b (walk_from f (suc from) left) from)
    go false y i = record { stopped = y; before = λ k a b. never (omega arith) }
    go true y i =
        let later : suc from ≤ e = elim (ℕ_discrete from e) [ yes q ↦ never (let w : f from ≡ false = rw q x in cc) | no q ↦ omega arith ] in
        let s = i later in
        record {
          stopped = s.stopped;
          before = λ k a b. elim (ℕ_discrete k from) [ yes q ↦ rw q y | no q ↦ s.before k (omega arith) b ];
        }
