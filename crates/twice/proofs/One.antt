-- Two results that the contracts allow are equal, and so are those of the two ways.
use Rattle.std.proofs.Common.{◌≡◌, ℕ, List, sym, ◌∙◌}
use Rattle.std.specs.Prelude.{Option}
use Rattle.twice.specs.Twice.{second, if_any, cleared}

module _ (m places : List ℕ) where
  pub one_place : (a b : Option ℕ) → a ≡ if_any (second m places) → b ≡ if_any (second m places) → a ≡ b
  one_place a b d e = d ∙ sym e

  pub one_result : (index : List ℕ) (a b : Option ℕ) (x y : List ℕ)
      → (a ≡ if_any (second m places)) × (x ≡ cleared index) → (b ≡ if_any (second m places)) × (y ≡ cleared index) → (a ≡ b) × (x ≡ y)
  one_result index a b x y d e = (d.0 ∙ sym e.0, d.1 ∙ sym e.1)
