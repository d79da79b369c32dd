-- Ten is cancelled by 97: what the remainder tells of what stands before, and what it keeps of what stands behind.
use mathlib.Core.Path.{◌≡◌, ap, sym, ◌∙◌}
use mathlib.Core.List.{List}
use Prim.Native.Nat.{ℕ, zero, suc, ◌+◌, ◌*◌, ◌^◌, ◌%◌, ◌/◌, ◌<◌, ◌≤◌}
use native.Mathlib.Nat.{mod-eq_of_lt, add-mul-mod_self_left, pow-suc, mul_assoc, div-add-mod'}
use native.Mathlib.Decide.{dec_lt}
use native.Mathlib.Omega.{arith}
use lib.ListN.{length, drop, get_or, drop_of_length-le}
use Rattle.text.specs.Quoted.{followed_by}
use Rattle.text.proofs.Scan.{next}
use Rattle.text.proofs.Decimal.{linear, followed_append}
use Rattle.check97.specs.Check.{spell, spelled}

-- two numbers that differ by multiples of 97 leave the same
mod_by : (u v x y : ℕ) → x + 97 * u ≡ y + 97 * v → x % 97 ≡ y % 97
mod_by u v x y e = sym (add-mul-mod_self_left x 97 u) ∙ ap (λ (k : ℕ). k % 97) e ∙ add-mul-mod_self_left y 97 v

-- 10 times 68 is 1 more than 7 times 97
cancel_ten : (a b : ℕ) → a * 10 % 97 ≡ b * 10 % 97 → a % 97 ≡ b % 97
cancel_ten a b e = mod_by (7 * a + 68 * (b * 10 / 97)) (7 * b + 68 * (a * 10 / 97)) a b (omega arith)

cancel : (k a b : ℕ) → a * 10 ^ k % 97 ≡ b * 10 ^ k % 97 → a % 97 ≡ b % 97
cancel zero a b e = omega arith
cancel (suc k) a b e = cancel k a b (cancel_ten (a * 10 ^ k) (b * 10 ^ k) (simp (mul_assoc, ← pow-suc) e))

pub same_before : (m n : ℕ) (s : List ℕ) → followed_by m s % 97 ≡ followed_by n s % 97 → m % 97 ≡ n % 97
same_before m n s e = cancel (length s) m n (omega (arith, linear m s, linear n s))

-- What is written behind depends on the remainder only: that of a number continued by a group is that of its remainder continued by the group.
-- Once over the group's length: p is ten to that power, and v what the group writes.
scaled : (m n p : ℕ) → m % 97 ≡ n % 97 → m * p + 97 * (n / 97 * p) ≡ n * p + 97 * (m / 97 * p)
scaled m n p e = omega (arith, ap (λ (k : ℕ). k * p) (div-add-mod' m 97), ap (λ (k : ℕ). k * p) (div-add-mod' n 97), ap (λ (k : ℕ). k * p) e)

pub continued : (m n p v : ℕ) → m % 97 ≡ n % 97 → (m * p + v) % 97 ≡ (n * p + v) % 97
continued m n p v e = mod_by (n / 97 * p) (m / 97 * p) (m * p + v) (n * p + v) (omega (arith, scaled m n p e))

pub same_behind : (m n : ℕ) (s : List ℕ) → m % 97 ≡ n % 97 → followed_by m s % 97 ≡ followed_by n s % 97
same_behind m n s e = rw (linear m s, linear n s) (continued m n (10 ^ length s) (followed_by 0 s) e)

-- what two numbers of one remainder differ by leaves the same
pub differ : (a b q d : ℕ) → a % 97 ≡ b % 97 → b + d ≡ a + q → q % 97 ≡ d % 97
differ a b q d e f = mod_by (a / 97) (b / 97) q d (omega arith)

-- two letters of worth a and b leave the same in either order only where these are one (2 times 49 is 1 more than 97)
pub letters_one : (a b : ℕ) → a < 36 → b < 36 → (a * 100 + b) % 97 ≡ (b * 100 + a) % 97 → a ≡ b
letters_one a b h g e =
    let z : a % 97 ≡ b % 97 = mod_by (50 * a + 49 * ((b * 100 + a) / 97)) (50 * b + 49 * ((a * 100 + b) / 97)) a b (omega arith) in
    sym (mod-eq_of_lt (omega arith)) ∙ z ∙ mod-eq_of_lt (omega arith)

-- a digit d and a letter of worth w leave the same in either order only where w is 11 times d, so that both orders write d three times
-- (9 times 54 is 1 more than 5 times 97)
pub eleven_times : (d w : ℕ) → d < 10 → 10 ≤ w → w < 36 → (d * 100 + w) % 97 ≡ (w * 10 + d) % 97 → w ≡ 11 * d
eleven_times d w h l g e =
    let z : w % 97 ≡ 11 * d % 97 = mod_by (5 * w + 54 * ((d * 100 + w) / 97)) (55 * d + 54 * ((w * 10 + d) / 97)) w (11 * d) (omega arith) in
    let y : w % 97 ≡ w = mod-eq_of_lt (omega arith) in
    elim (dec_lt (11 * d) 97) [
      | yes k ↦ sym y ∙ z ∙ mod-eq_of_lt k
      | no k ↦ let x : d ≡ 9 = omega arith in absurd (omega (arith, y, rw x at z))
    ]

-- ---- how a loop reads it
module _ (n : ℕ) (s : List ℕ) (i : ℕ) where
  -- m leaves what n leaves with one character behind it
  pub spelled_next : (m : ℕ) → i < length s → m % 97 ≡ followed_by n (spell (get_or s i 0)) % 97
      → followed_by m (spelled (drop (i + 1) s)) % 97 ≡ followed_by n (spelled (drop i s)) % 97
  spelled_next m h e =
      rw (next s i h, followed_append n (spell (get_or s i 0)) (spelled (drop (i + 1) s)))
      (same_behind m (followed_by n (spell (get_or s i 0))) (spelled (drop (i + 1) s)) e)

  pub spelled_end : length s ≤ i → n % 97 ≡ followed_by n (spelled (drop i s)) % 97
  spelled_end h = rw drop_of_length-le
