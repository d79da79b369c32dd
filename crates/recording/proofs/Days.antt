-- Days counted year by year and month by month, and the short ways to count them.
use mathlib.Core.Path.{◌≡◌, refl}
use mathlib.Core.Bool.{Bool, true, false, not}
use mathlib.Core.List.{[], ◌∷◌}
use Prim.Native.Nat.{ℕ, zero, suc, ◌+◌, ◌-◌, ◌*◌, ◌/◌, ◌%◌, ◌≤◌, ◌<◌}
use native.Mathlib.Omega.{arith}
use borrow.Author.Tests.{eqb-true}
use lib.Dec.{eqb, T}
use Rattle.text.specs.Truth.{both, either, pick, some}
use Rattle.text.specs.Below.{below_at}
use Rattle.text.proofs.Truths.{never}
use Rattle.calendar.specs.Date.{leap, days_in}
use Rattle.recording.specs.Instant.{years_days, months_days}

-- ---- years: 365 days each, and one more for every fourth, but of the hundreds only for every fourth
none_left : (k : ℕ) → eqb k 0 ≡ true → k ≡ 0
none_left k e = eqb-true k 0 e

some_left : (k : ℕ) → eqb k 0 ≡ false → 1 ≤ k
some_left zero e = never (cc)
some_left (suc k) e = omega arith

-- how many times 4, 100 and 400 go into the next number
module _ (n : ℕ) where
  by_4 : (b : Bool) → eqb (suc n % 4) 0 ≡ b → suc n / 4 ≡ n / 4 + pick b 1 0
  by_4 true e = omega (arith, none_left (suc n % 4) e)
  by_4 false e = omega (arith, some_left (suc n % 4) e)

  by-100 : (b : Bool) → eqb (suc n % 100) 0 ≡ b → suc n / 100 ≡ n / 100 + pick b 1 0
  by-100 true e = omega (arith, none_left (suc n % 100) e)
  by-100 false e = omega (arith, some_left (suc n % 100) e)

  by-400 : (b : Bool) → eqb (suc n % 400) 0 ≡ b → suc n / 400 ≡ n / 400 + pick b 1 0
  by-400 true e = omega (arith, none_left (suc n % 400) e)
  by-400 false e = omega (arith, some_left (suc n % 400) e)

  four-in-hundred : eqb (suc n % 4) 0 ≡ false → eqb (suc n % 100) 0 ≡ true → ⊥
  four-in-hundred e f = omega (arith, some_left (suc n % 4) e, none_left (suc n % 100) f)

  hundred-in-four : eqb (suc n % 100) 0 ≡ false → eqb (suc n % 400) 0 ≡ true → ⊥
  hundred-in-four e f = omega (arith, some_left (suc n % 100) e, none_left (suc n % 400) f)

  one-year : (a b c : Bool) → eqb (suc n % 4) 0 ≡ a → eqb (suc n % 100) 0 ≡ b → eqb (suc n % 400) 0 ≡ c → (u v w : ℕ)
      → pick (both a (either (not b) c)) 366 365 + (v + pick b 1 0) + u + w ≡ 365 + (u + pick a 1 0) + (w + pick c 1 0) + v
  one-year true true true p q r u v w = omega arith
  one-year true true false p q r u v w = omega arith
  one-year true false true p q r u v w = absurd (hundred-in-four q r)
  one-year true false false p q r u v w = omega arith
  one-year false true c p q r u v w = absurd (four-in-hundred p q)
  one-year false false true p q r u v w = absurd (hundred-in-four q r)
  one-year false false false p q r u v w = omega arith

join : (y n u v w u' v' w' k : ℕ) → y + v ≡ n * 365 + u + w → k + v' + u + w ≡ 365 + u' + w' + v → y + k + v' ≡ suc n * 365 + u' + w'
join y n u v w u' v' w' k h g = omega arith

pub years_sum : (n : ℕ) → years_days n + n / 100 ≡ n * 365 + n / 4 + n / 400
unfolding years_days leap
years_sum zero = refl
years_sum (suc n) =
    rw (by_4 n _ refl, by-100 n _ refl, by-400 n _ refl)
    (join (years_days n) n (n / 4) (n / 100) (n / 400) _ _ _ _ (years_sum n) (one-year n _ _ _ refl refl refl (n / 4) (n / 100) (n / 400)))

pub years_next : (n : ℕ) → 1 ≤ n → years_days n ≡ years_days (n - 1) + pick (leap n) 366 365
unfolding years_days
years_next zero h = never (omega arith)
years_next (suc n) h =
    let z : suc n - 1 ≡ n = omega arith in
    rw z

-- ---- months, of a leap year or another
abbrev days_by : Bool → ℕ → ℕ
days_by b m = pick (eqb m 2) (pick b 29 28) (pick (some (eqb m) (4 ∷ 6 ∷ 9 ∷ 11 ∷ [])) 30 31)

abbrev months_by : Bool → ℕ → ℕ
months_by b zero = 0
months_by b (suc n) = months_by b n + days_by b (suc n)

months_by_lem : (y n : ℕ) (b : Bool) → leap y ≡ b → months_days y n ≡ months_by b n
unfolding months_days days_in
months_by_lem y zero b e = refl
months_by_lem y (suc n) b e = rw (months_by_lem y n b e, e)

abbrev fits : Bool → ℕ → Bool
fits b k = eqb (months_by b (k + 2)) (pick b 1 0 + 59 + (153 * k + 2) / 5)

is_true : (b : Bool) → T b → b ≡ true
is_true true t = refl
is_true false t = absurd t

from_march : (b : Bool) (k : ℕ) → k < 10 → months_by b (k + 2) ≡ pick b 1 0 + 59 + (153 * k + 2) / 5
from_march true k h = eqb-true _ _ (is_true (fits true k) (below_at 10 (fits true) tt k h))
from_march false k h = eqb-true _ _ (is_true (fits false k) (below_at 10 (fits false) tt k h))

module _ (y m : ℕ) where
  pub months_first : 1 ≤ m → m < 3 → (m - 1) * 31 ≡ months_days y (m - 1)
  unfolding months_days days_in
  months_first h g = go (m - 1) (omega arith)
    where
      go : (k : ℕ) → k < 2 → k * 31 ≡ months_days y k
      go zero l = refl
      go (suc zero) l = refl
      go (suc (suc k)) l = never (omega arith)

  pub months_later : 1 ≤ y → 3 ≤ m → m ≤ 12 → months_days y (m - 1) + 365 + years_days (y - 1) ≡ years_days y + 59 + (153 * (m - 3) + 2) / 5
  months_later h g l =
      let z : m - 1 ≡ m - 3 + 2 = omega arith in
      rw (z, years_next y h) (go (leap y) refl)
    where
      go : (b : Bool) → leap y ≡ b → months_days y (m - 3 + 2) + 365 + years_days (y - 1) ≡ years_days (y - 1) + pick b 366 365 + 59 + (153 * (m - 3) + 2) / 5
      go true e = omega (arith, months_by_lem y (m - 3 + 2) true e, from_march true (m - 3) (omega arith))
      go false e = omega (arith, months_by_lem y (m - 3 + 2) false e, from_march false (m - 3) (omega arith))

  pub months_below : 3 ≤ m → m ≤ 12 → months_days y (m - 1) < 400
  months_below g l =
      let z : m - 1 ≡ m - 3 + 2 = omega arith in
      rw z (go (leap y) refl)
    where
      go : (b : Bool) → leap y ≡ b → months_days y (m - 3 + 2) < 400
      go true e = omega (arith, months_by_lem y (m - 3 + 2) true e, from_march true (m - 3) (omega arith))
      go false e = omega (arith, months_by_lem y (m - 3 + 2) false e, from_march false (m - 3) (omega arith))

pub year_more : (y : ℕ) → 1 ≤ y → 365 + years_days (y - 1) ≤ years_days y
year_more y h = rw (years_next y h) (go (leap y))
  where
    go : (b : Bool) → 365 + years_days (y - 1) ≤ years_days (y - 1) + pick b 366 365
    go true = omega arith
    go false = omega arith
