-- `swift_values::quick_bics::bic_length` meets its contract.
use mathlib.Core.Path.{refl}
use mathlib.Core.Logic.{inl, inr}
use Rattle.swift_values.proofs.quick_bics.bic_length.Goals as goal

pub returns-then-c-eq60 : goal.returns-then-c-eq60
returns-then-c-eq60 c = inr refl

pub returns-else-c-eq60 : goal.returns-else-c-eq60
returns-else-c-eq60 c = inl refl
