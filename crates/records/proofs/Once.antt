-- Two outcomes that the contract allows are equal: the verdict, and every byte of the area.
use mathlib.Core.Path.{◌≡◌, sym, ◌∙◌}
use mathlib.Core.List.{List}
use Prim.Native.Nat.{ℕ}
use Rattle.records.specs.Indexed.{recorded_with}
use Rattle.std.specs.Prelude.{Result}
use Rattle.answers.specs.declared.Refused.{Refused}
use Rattle.judge.specs.declared.Accepted.{Accepted}
use Rattle.judge.specs.Verdict.{meant}
use Rattle.judge.proofs.One.{one_verdict}

pub one_outcome : (i m a : List ℕ) (v w : Result Accepted Refused) (x y : List ℕ) → meant v ≡ (recorded_with i m a).verdict → x ≡ (recorded_with i m a).area → meant w ≡ (recorded_with i m a).verdict → y ≡ (recorded_with i m a).area
    → (v ≡ w) × (x ≡ y)
one_outcome i m a v w x y e f g h = (one_verdict v w (recorded_with i m a).verdict e g, f ∙ sym h)
