-- The ten words of a recording that was played back: the table as it is laid flat.
use Prim.Native.Nat.{ℕ}
use mathlib.Core.Path.{◌≡◌, refl}
use mathlib.Core.List.{List, [], ◌∷◌}
use native.Mathlib.Omega.{arith}
use lib.ListN.{length, get_or}
use Rattle.text.proofs.Truths.{never}
use Rattle.accounts.specs.Lengths.{in_one}
use Rattle.play.specs.Code.{in_rows}

-- row behind row is what was laid flat, word for word
pub eight : (t : List ℕ) → length t ≡ 8
    → get_or t 0 0 ∷ get_or t 1 0 ∷ get_or t 2 0 ∷ get_or t 3 0 ∷ get_or t 4 0 ∷ get_or t 5 0 ∷ get_or t 6 0 ∷ get_or t 7 0 ∷ [] ≡ in_one (in_rows t)
eight (a ∷ b ∷ c ∷ d ∷ e ∷ f ∷ g ∷ h ∷ []) n = refl
eight [] n = never (omega arith)
eight (a ∷ []) n = never (omega arith)
eight (a ∷ b ∷ []) n = never (omega arith)
eight (a ∷ b ∷ c ∷ []) n = never (omega arith)
eight (a ∷ b ∷ c ∷ d ∷ []) n = never (omega arith)
eight (a ∷ b ∷ c ∷ d ∷ e ∷ []) n = never (omega arith)
eight (a ∷ b ∷ c ∷ d ∷ e ∷ f ∷ []) n = never (omega arith)
eight (a ∷ b ∷ c ∷ d ∷ e ∷ f ∷ g ∷ []) n = never (omega arith)
eight (a ∷ b ∷ c ∷ d ∷ e ∷ f ∷ g ∷ h ∷ i ∷ t) n = never (omega arith)
