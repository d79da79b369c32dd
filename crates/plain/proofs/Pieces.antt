-- A text is gone through piece by piece: how many bytes that gives, and how they are laid into an area.
use mathlib.Core.Path.{◌≡◌, refl, sym, ap, ◌∙◌}
use mathlib.Core.Logic.{◌≢◌}
use mathlib.Core.List.{List, [], ◌∷◌, ◌++◌, append-nil, append_assoc}
use Prim.Native.Nat.{ℕ, zero, suc, ◌+◌, ◌-◌, ◌≤◌, ◌<◌}
use native.Mathlib.Omega.{arith}
use borrow.Rule.Slice.PartMut.{put_mid}
use lib.ListN.{length, take, drop, length-append, length-drop, take-append-drop}
use lib.Seq.{take_at, drop_at, drop-drop, length-take-le}
use Rattle.text.specs.Truth.{lead}
use Rattle.text.proofs.Truths.{never}
use Rattle.tags.specs.Values.{in_value}
use Rattle.plain.specs.Engine.{in_tag, behind_tag, next_of, piece_of, pieces_in, pieces}

-- ---- the number of pieces is no matter, once it is enough
next_shorter : (c : ℕ) (s : List ℕ) → length (next_of (c ∷ s)) ≤ length s
next_shorter c s =
    omega (arith, length-drop (lead in_value (behind_tag (c ∷ s))) (behind_tag (c ∷ s)), length-drop (lead in_tag (c ∷ s)) s)

enough : (i j : ℕ) (s : List ℕ) → length s ≤ i → length s ≤ j → pieces_in i s ≡ pieces_in j s
enough zero zero s h g = refl
enough zero (suc j) [] h g = refl
enough zero (suc j) (c ∷ s) h g = never (omega arith)
enough (suc i) zero [] h g = refl
enough (suc i) zero (c ∷ s) h g = never (omega arith)
enough (suc i) (suc j) [] h g = refl
enough (suc i) (suc j) (c ∷ s) h g =
    ap (λ (l : List ℕ). piece_of (c ∷ s) ++ l) (enough i j (next_of (c ∷ s)) (omega (arith, next_shorter c s)) (omega (arith, next_shorter c s)))

pub pieces_none : pieces [] ≡ []
unfolding pieces
pieces_none = refl

pub pieces_first : (s : List ℕ) → 0 < length s → pieces s ≡ piece_of s ++ pieces (next_of s)
unfolding pieces
pieces_first [] h = never (omega arith)
pieces_first (c ∷ s) h = ap (λ (l : List ℕ). piece_of (c ∷ s) ++ l) (enough (length s) (length (next_of (c ∷ s))) (next_of (c ∷ s)) (next_shorter c s) (omega arith))

-- ---- a text that is not empty: its first piece, and what is left behind it, which is shorter
above : (n : ℕ) → n ≢ 0 → 0 < n
above n h = omega (arith, h)

module _ (s : List ℕ) (h : length s ≢ 0) where
  pub next_less : length (next_of s) < length s
  next_less = go s (above (length s) h)
    where
      go : (s : List ℕ) → 0 < length s → length (next_of s) < length s
      go [] h = never (omega arith)
      go (c ∷ s) h = omega (arith, next_shorter c s)

  pub step_text : pieces s ≡ piece_of s ++ pieces (next_of s)
  step_text = pieces_first s (above (length s) h)

  pub step_long : length (pieces s) ≡ length (piece_of s) + length (pieces (next_of s))
  step_long = ap length step_text ∙ length-append (piece_of s) (pieces (next_of s))

pub none_left : (s : List ℕ) → length s ≡ 0 → pieces s ≡ []
none_left [] h = pieces_none
none_left (c ∷ s) h = never (omega arith)

pub none_long : (s : List ℕ) → length s ≡ 0 → length (pieces s) ≡ 0
none_long s h = ap length (none_left s h)

-- ---- the area: n bytes of it are written, r is what is left of the text, and the others are as lent
pub record Laid (s area₀ r : List ℕ) (n : ℕ) (area : List ℕ) : Type 0 where
  pub long : length area ≡ length area₀
  pub fits : n ≤ length area
  pub done : take n area ++ pieces r ≡ pieces s
  pub kept : drop n area ≡ drop n area₀

module _ (s area₀ : List ℕ) (room : length (pieces s) ≤ length area₀) where
  pub laid_begins : Laid s area₀ s 0 area₀
  laid_begins = record { long = refl; fits = omega arith; done = refl; kept = refl }

  module _ (r : List ℕ) (n : ℕ) (area : List ℕ) (l : Laid s area₀ r n area) where
    pub laid_ends : length r ≡ 0 → area ≡ pieces s ++ drop (length (pieces s)) area₀
    laid_ends h =
        let z : take n area ≡ pieces s = sym (append-nil (take n area)) ∙ (rw (none_left r h) at l.done) in
        let m : length (pieces s) ≡ n = sym (ap length z) ∙ length-take-le n area l.fits in
        sym (take-append-drop n area) ∙ rw (z, l.kept, m)

    module _ (h : length r ≢ 0) (k : ℕ) (i : k ≡ length (piece_of r)) where
      pub part_fits : n + k ≤ length area
      part_fits =
          let a = ap length l.done in
          let b = length-append (take n area) (pieces r) in
          let c = length-take-le n area l.fits in
          let d = step_long r h in
          omega (arith, a, b, c, d, i, room, l.long)

      pub part_room : length (take (n + k - n) (drop n area)) ≡ length (piece_of r)
      part_room = length-take-le (n + k - n) (drop n area) (omega (arith, length-drop n area, part_fits)) ∙ omega (arith, i)

      module _ (x : List ℕ) (is_x : x ≡ piece_of r) where
        abbrev pub written : List ℕ
        written = put_mid n (n + k - n) area x

        first-long : length (take n area ++ x) ≡ n + k
        first-long = length-append (take n area) x ∙ omega (arith, length-take-le n area l.fits, ap length is_x, i)

        written_is : written ≡ (take n area ++ x) ++ drop (n + k) area
        written_is =
            let z : n + k - n ≡ k = omega arith in
            rw (z, drop-drop k n area, append_assoc (take n area) x (drop (n + k) area))

        pub laid_on : Laid s area₀ (next_of r) (n + k) written
        laid_on = record {
          long = ap length written_is ∙ length-append (take n area ++ x) (drop (n + k) area) ∙ omega (arith, first-long, length-drop (n + k) area, part_fits, l.long);
          fits = omega (arith, ap length written_is, length-append (take n area ++ x) (drop (n + k) area), first-long);
          done =
              rw (written_is, take_at (take n area ++ x) (drop (n + k) area) (n + k) first-long, append_assoc (take n area) x (pieces (next_of r)), is_x, ← step_text r h)
              l.done;
          kept = rw (written_is) (drop_at (take n area ++ x) (drop (n + k) area) (n + k) first-long ∙ sym (drop-drop k n area) ∙ ap (drop k) l.kept ∙ drop-drop k n area₀);
        }

-- ---- a text d in front of p: the first part, and p with what stood behind it in the second
pub front_laid : (d p area : List ℕ) → d ++ (p ++ drop (length p) (drop (length d) area)) ≡ (d ++ p) ++ drop (length (d ++ p)) area
front_laid d p area =
    let z : drop (length p) (drop (length d) area) ≡ drop (length (d ++ p)) area = drop-drop (length p) (length d) area ∙ ap (λ (n : ℕ). drop n area) (sym (length-append d p)) in
    rw z (sym (append_assoc d p (drop (length (d ++ p)) area)))
