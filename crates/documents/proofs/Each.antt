-- What holds of each of a list, and of its parts.
use mathlib.Core.List.{List, [], ◌∷◌, ◌++◌}
use Rattle.documents.specs.Document.{Each}

module _ {A : Type 0} (P : A → Type 0) where
  pub each_both : (a b : List A) → Each P a → Each P b → Each P (a ++ b)
  each_both [] b h g = g
  each_both (x ∷ a) b h g = (h.0, each_both a b h.1 g)

  pub each_first : (a b : List A) → Each P (a ++ b) → Each P a
  each_first [] b h = tt
  each_first (x ∷ a) b h = (h.0, each_first a b h.1)

  pub each_rest : (a b : List A) → Each P (a ++ b) → Each P b
  each_rest [] b h = h
  each_rest (x ∷ a) b h = each_rest a b h.1
