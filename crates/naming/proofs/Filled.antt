-- A part of a key that a value fills, with spaces behind it.
use mathlib.Core.Path.{◌≡◌, refl, sym, ap, ◌∙◌}
use mathlib.Core.List.{List, [], ◌++◌, append-nil}
use mathlib.Core.Logic.{◌⊎◌, inl, inr}
use Prim.Native.Nat.{ℕ, ◌+◌, ◌-◌, ◌≤◌, ◌<◌, min}
use native.Mathlib.Omega.{arith}
use borrow.Rule.Slice.PartMut.{put_mid}
use lib.ListN.{length, take, drop, replicate, length-append, length-drop}
use lib.Seq.{take_all, take_at, drop_at, length-take-le, take-append-le}
use Rattle.std.proofs.Math.Seq.{take-append-add}
use Rattle.std.proofs.lemmas.List.{take-replicate, drop_all}
use Rattle.text.proofs.Truths.{lt_or_ge}
use Rattle.postings.specs.Record.{padded}

-- a value with spaces behind it: as much of it as fits, and spaces up to the end
padded_split : (p n : ℕ) (v : List ℕ) → n ≡ min (length v) p → padded p v ≡ take n v ++ replicate (p - n) 32
unfolding padded
padded_split p n v e = go (lt_or_ge p (length v))
  where
    go : (p < length v) ⊎ (length v ≤ p) → take p (v ++ replicate p 32) ≡ take n v ++ replicate (p - n) 32
    go (inr h) =
        let a : p ≡ length v + (p - length v) = omega arith in
        let b : n ≡ length v = omega (arith, e) in
        ap (λ k. take k (v ++ replicate p 32)) a ∙ take-append-add v (replicate p 32) (p - length v) ∙ rw (
          b,
          take_all (length v) v (omega arith),
          take-replicate {X = ℕ} (p - length v)
              p 32 (omega arith),
        ) refl
    go (inl h) =
        let b : n ≡ p = omega (arith, e) in
        let d : p - p ≡ 0 = omega arith in
        take-append-le p v (replicate p 32) (omega arith) ∙ rw (b, d, append-nil) refl

-- a part that is filled by a value, and by spaces behind it
module _ (part v c f : List ℕ) (n : ℕ) (e : n ≡ min (length v) (length part)) (g : c ≡ take n v) where
  abbrev begun : List ℕ
  begun = c ++ drop n part

  long : length c ≡ n
  long = ap length g ∙ length-take-le n v (omega (arith, e))

  whole : length begun ≡ length part
  whole = length-append c (drop n part) ∙ omega (arith, long, e, length-drop n part)

  behind : drop n begun ≡ drop n part
  behind = drop_at c (drop n part) n long

  pub put_whole : f ≡ replicate (length (take (length begun - n) (drop n begun))) 32 → put_mid n (length begun - n) begun f ≡ padded (length part) v
  put_whole h =
      let room : length (drop n part) ≡ length part - n = length-drop n part in
      let none : drop (length begun - n) (drop n begun) ≡ [] = rw (whole, behind) (drop_all (length part - n) (drop n part) (omega (arith, room))) in
      let all : length (take (length begun - n) (drop n begun)) ≡ length part - n = rw (whole, behind) (length-take-le (length part - n) (drop n part) (omega (arith, room))) in
      rw (none, take_at c (drop n part) n long, h, all, append-nil, g) (sym (padded_split (length part) n v e))
