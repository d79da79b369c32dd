-- How the loop reads the number that at most 15 digits write.
use mathlib.Core.Path.{◌≡◌, refl}
use mathlib.Core.Bool.{true}
use mathlib.Core.List.{List}
use Prim.Native.Nat.{ℕ, ◌+◌, ◌-◌, ◌*◌, ◌<◌, ◌≤◌}
use native.Mathlib.Omega.{arith}
use lib.ListN.{length, drop, get_or, drop_of_length-le}
use Rattle.text.specs.Truth.{every}
use Rattle.text.specs.Quoted.{followed_by, decimal}
use Rattle.text.specs.Classes.{digit}
use Rattle.text.proofs.Scan.{next, every_at}
use Rattle.text.proofs.Digits.{digit_bounds}
use Rattle.text.proofs.Decimal.{grows, decimal_below}

pub starts : (s : List ℕ) → followed_by 0 s ≡ decimal s
unfolding decimal
starts s = refl

pub ends : (n : ℕ) (s : List ℕ) (i : ℕ) → length s ≤ i → followed_by n (drop i s) ≡ decimal s → n ≡ decimal s
ends n s i h e = rw (drop_of_length-le s h) at e

-- what a turn of the loop knows: n so far, x the byte, r what stands behind it
pub record Turn (n x : ℕ) (s r : List ℕ) : Type 0 where
  pub low : 48 ≤ x
  pub high : x ≤ 57
  pub fits : n * 10 + (x - 48) < 1000000000000000
  pub same : followed_by (n * 10 + (x - 48)) r ≡ decimal s
  pub rest : every digit r ≡ true

pub turn : (n : ℕ) (s : List ℕ) (i : ℕ) → i < length s → length s ≤ 15 → every digit s ≡ true
    → followed_by n (drop i s) ≡ decimal s → every digit (drop i s) ≡ true → Turn n (get_or s i 0) s (drop (i + 1) s)
turn n s i h len d e r =
    let x = get_or s i 0 in
    let b = every_at digit s i h r in
    let q = digit_bounds x b.0 in
    let f : followed_by (n * 10 + (x - 48)) (drop (i + 1) s) ≡ decimal s = rw (next s i h) at e in
    record {
      low = q.0;
      high = q.1;
      fits = omega (arith, grows (n * 10 + (x - 48)) (drop (i + 1) s), decimal_below 15 s len d);
      same = f;
      rest = b.1;
    }
