-- White space that was passed is passed.
use mathlib.Core.Path.{◌≡◌, refl, sym, ap, ◌∙◌}
use mathlib.Core.Bool.{Bool, true, false}
use mathlib.Core.List.{List, [], ◌∷◌}
use Prim.Native.Nat.{ℕ, suc}
use native.Mathlib.Omega.{arith}
use lib.ListN.{drop}
use lib.Seq.{drop-drop}
use Rattle.text.specs.Truth.{pick, lead}
use Rattle.tags.specs.Tags.{white, skipped}

lead_over : (f : ℕ → Bool) (l : List ℕ) → lead f (drop (lead f l) l) ≡ 0
lead_over f [] = refl
lead_over f (c ∷ l) = go (f c) refl (lead_over f l)
  where
    go : (b : Bool) → f c ≡ b → lead f (drop (lead f l) l) ≡ 0 → lead f (drop (pick b (suc (lead f l)) 0) (c ∷ l)) ≡ 0
    go true e h = h
    go false e h = rw e

pub skip_twice : (m : List ℕ) (p : ℕ) → skipped m (skipped m p) ≡ skipped m p
skip_twice m p =
    let z : lead white (drop (skipped m p) m) ≡ 0 = ap (lead white) (sym (drop-drop (lead white (drop p m)) p m)) ∙ lead_over white (drop p m) in
    omega arith
