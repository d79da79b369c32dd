-- How a loop finds two slashes, from a place on; and the slash rule of a collapsed value, which is that of its bytes with the ends stripped.
use mathlib.Core.Path.{◌≡◌, refl, ap, ◌∙◌}
use mathlib.Core.Bool.{Bool, true, false, ◌&&◌, ◌||◌}
use mathlib.Core.List.{List, [], ◌∷◌, map}
use Prim.Native.Nat.{ℕ, zero, suc, ◌+◌, ◌-◌}
use native.Mathlib.Omega.{arith}
use lib.ListN.{length, drop, get_or, drop_of_length-le, length-map}
use Rattle.std.specs.List.{list_any, zip, starts_with, ends_with}
use lib.Dec.{eqb}
use lib.Pointwise.{pointwise}
use Rattle.text.proofs.Chains.{eqb_swap}
use Rattle.text.specs.Truth.{both, either, first, last}
use Rattle.text.proofs.Truths.{both_false}
use Rattle.text.proofs.Scan.{next}
use Rattle.words.specs.Collapsed.{as_space, stripped, collapsed}
use Rattle.words.specs.Reference.{slash, two_slashes, slash_rule}
use Rattle.words.specs.Walk.{blank}
use Rattle.words.proofs.White.{as_space_slash}
use Rattle.words.proofs.Runs.{runs_first, runs_last, runs_slashes}
use Rattle.words.proofs.Collapsed.{collapsed_read}

-- two slashes are one, and one behind it
abbrev pub side_by_side : ℕ × ℕ → Bool
side_by_side p = slash p.0 && slash p.1

and_true : (a : Bool) → (a && true) ≡ a
and_true true = refl
and_true false = refl

as_tests : (a b c : Bool) → ((a && b) || c) ≡ either (both a b) c
as_tests true true c = refl
as_tests true false c = refl
as_tests false b c = refl

pub two_pairs : (s : List ℕ) → list_any side_by_side (zip s (drop 1 s)) ≡ two_slashes s
two_pairs [] = refl
two_pairs (c ∷ []) = rw (both_false (slash c)) refl
two_pairs (c ∷ d ∷ s) = rw (two_pairs (d ∷ s)) (as_tests (slash c) (slash d) (two_slashes (d ∷ s)))

-- the library's words for a slash first and a slash last
pub starts_slash : (s : List ℕ) → starts_with eqb s (47 ∷ []) ≡ slash (first s)
starts_slash [] = refl
starts_slash (c ∷ s) = rw (eqb_swap 47 c) (and_true (eqb c 47))

one_slash : (l : List ℕ) (c : ℕ) → l ≡ c ∷ [] → pointwise eqb (47 ∷ []) l ≡ slash c
one_slash l c e = rw (e, eqb_swap 47 c) (and_true (eqb c 47))

pub ends_slash : (s : List ℕ) → ends_with eqb s (47 ∷ []) ≡ slash (last s)
ends_slash [] = refl
ends_slash (c ∷ s) =
    let n = length (c ∷ s) - 1 in
    let none : drop (n + 1) (c ∷ s) ≡ [] = drop_of_length-le (c ∷ s) {i = n + 1} (omega arith) in
    one_slash (drop n (c ∷ s)) (last (c ∷ s)) (next (c ∷ s) n (omega arith) ∙ ap (λ (l : List ℕ). last (c ∷ s) ∷ l) none)

-- ---- a slash is no space, and nothing that counts as one
counted_at : (s : List ℕ) (i : ℕ) → slash (get_or (map as_space s) i 0) ≡ slash (get_or s i 0)
counted_at [] i = refl
counted_at (c ∷ s) zero = as_space_slash c
counted_at (c ∷ s) (suc i) = counted_at s i

counted_slashes : (s : List ℕ) → two_slashes (map as_space s) ≡ two_slashes s
counted_slashes [] = refl
counted_slashes (c ∷ s) = rw (counted_at s 0, as_space_slash c, counted_slashes s)

pub collapsed_slashes : (s : List ℕ) → slash_rule (collapsed s) ≡ slash_rule (stripped blank s)
unfolding slash_rule
collapsed_slashes s =
    let p = stripped blank s in
    let t = map as_space p in
    rw (collapsed_read s, runs_first t, runs_last t, runs_slashes t, counted_slashes p, counted_at p 0, length-map p as_space, counted_at p (length p - 1))
