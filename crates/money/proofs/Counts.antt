-- What the form of a count tells.
use mathlib.Core.Path.{◌≡◌}
use mathlib.Core.Bool.{true}
use mathlib.Core.List.{List}
use Prim.Native.Nat.{ℕ, ◌≤◌}
use lib.ListN.{length}
use Rattle.text.specs.Truth.{every}
use Rattle.text.specs.Classes.{digit}
use Rattle.text.proofs.Truths.{between_true, passes}
use Rattle.money.specs.Count.{count_form}

pub record Count (s : List ℕ) : Type 0 where
  pub short : length s ≤ 15
  pub digits : every digit s ≡ true

pub counted : (s : List ℕ) → count_form s ≡ true → Count s
unfolding count_form
counted s e = record { short = (between_true 1 15 (length s) (passes _ e 0)).1; digits = passes _ e 1 }
