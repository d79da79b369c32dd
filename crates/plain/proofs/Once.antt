-- Two outcomes that the contract allows are equal: the answer, and every byte of the area.
use mathlib.Core.Path.{◌≡◌, sym, ◌∙◌}
use mathlib.Core.List.{List}
use Prim.Native.Nat.{ℕ}
use native.Mathlib.Omega.{arith}
use Rattle.forms.specs.Written.{Outcome}
use Rattle.forms.proofs.Once.{one_written}
use Rattle.plain.specs.Indexed.{WroteWith, too_short, with_room}

pub one_written_with : (i m a : List ℕ) (o p : Outcome) → WroteWith i m a o → WroteWith i m a p → o ≡ p
one_written_with i m a o p (too_short h e) (too_short k f) = e ∙ sym f
one_written_with i m a o p (with_room h e) (with_room k f) = one_written m a o p e f
one_written_with i m a o p (too_short h e) (with_room k f) = absurd (let y : ⊥ = omega arith in y)
one_written_with i m a o p (with_room h e) (too_short k f) = absurd (let y : ⊥ = omega arith in y)
