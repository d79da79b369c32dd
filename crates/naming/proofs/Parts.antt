-- Parts of a key, each a value with spaces behind it, written one behind the other.
use mathlib.Core.Path.{◌≡◌, refl, sym, ap, ◌∙◌}
use mathlib.Core.List.{List, [], ◌∷◌, ◌++◌, append_assoc}
use Prim.Native.Nat.{ℕ, zero, suc, ◌+◌, ◌≤◌, ◌<◌}
use native.Mathlib.Numerals.{add-one}
use native.Mathlib.Omega.{arith}
use borrow.Rule.Slice.PartMut.{put_mid}
use lib.ListN.{length, take, drop, get_or, set, replicate, length-append, length-take, length-drop, length-replicate}
use lib.Seq.{take-suc, take-suc-set, take_all, take_at, drop_at, get_or-take}
use Rattle.text.proofs.Truths.{never}
use Rattle.postings.specs.Record.{padded}
use Rattle.postings.proofs.Long.{length_padded}

-- ---- a byte behind the end of a value
pub space_behind : (v : List ℕ) (i : ℕ) → length v ≤ i → 32 ≡ get_or v i 32
space_behind [] i h = refl
space_behind (x ∷ v) zero h = never (omega arith)
space_behind (x ∷ v) (suc i) h = space_behind v i (omega arith)

-- ---- a value with spaces behind it, byte by byte
padded_at : (n : ℕ) (v : List ℕ) (i : ℕ) → i < n → get_or v i 32 ≡ get_or (padded n v) i 0
unfolding padded
padded_at n v i h = sym (get_or-take n (v ++ replicate n 32) i 0 h ∙ go v i h)
  where
    spaces : (n i : ℕ) → i < n → get_or {A = ℕ} (replicate n 32) i 0 ≡ 32
    spaces zero i h = never (omega arith)
    spaces (suc n) zero h = refl
    spaces (suc n) (suc i) h = spaces n i (omega arith)

    go : (v : List ℕ) (i : ℕ) → i < n → get_or (v ++ replicate n 32) i 0 ≡ get_or v i 32
    go [] i h = spaces n i h
    go (c ∷ v) zero h = refl
    go (c ∷ v) (suc i) h = go v i (omega arith)

module _ (part : List ℕ) (n : ℕ) (v : List ℕ) (i : ℕ) (same : take i part ≡ take i (padded n v)) (wide : length part ≡ n) where
  pub put_more : (b : ℕ) → i < length part → b ≡ get_or v i 32 → take (i + 1) (set part i b) ≡ take (i + 1) (padded n v)
  put_more b h e =
      rw (add-one i, take-suc-set part i b h, same, e, padded_at n v i (omega arith), take-suc (padded n v) i 0 (omega (arith, length_padded n v)))

  pub put_end : length part ≤ i → part ≡ padded n v
  put_end h = sym (take_all i part h) ∙ same ∙ take_all i (padded n v) (omega (arith, length_padded n v))

-- ---- the parts that are written, and n spaces behind them
pub record So (at n : ℕ) (d r : List ℕ) : Type 0 where
  pub is : r ≡ d ++ replicate n 32
  pub long : length d ≡ at

drop_spaces : (w n : ℕ) → drop w (replicate {A = ℕ} (w + n) 32) ≡ replicate n 32
drop_spaces zero n =
    let z : 0 + n ≡ n = omega arith in
    rw z
drop_spaces (suc w) n =
    let z : suc w + n ≡ suc (w + n) = omega arith in
    rw z (drop_spaces w n)

pub so_long : {at n : ℕ} {d r : List ℕ} → So at n d r → length r ≡ at + n
so_long {n = n} {d = d} s = ap length s.is ∙ (length-append d (replicate n 32) ∙ rw (s.long, length-replicate {A = ℕ} n 32))

module _ {at : ℕ} (w n : ℕ) {d r : List ℕ} (s : So at (w + n) d r) where
  wide : length (take w (drop at r)) ≡ w
  wide = simp (length-take, length-drop) (omega (arith, so_long s))

  pub next_part : (v x : List ℕ) → x ≡ padded (length (take w (drop at r))) v → So (at + w) n (d ++ padded w v) (put_mid at w r x)
  next_part v x e =
      record {
        is = rw (e, wide, s.is, take_at d (replicate (w + n) 32) at s.long, drop_at d (replicate (w + n) 32) at s.long, drop_spaces w n, append_assoc);
        long = length-append d (padded w v) ∙ rw (s.long, length_padded w v);
      }
