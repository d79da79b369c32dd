-- "a two by four table of the open cents, by service and sequence type": rows CORE and B2B, columns FRST, RCUR, FNAL and OOFF.
use Rattle.std.specs.Prelude.{ℕ, ◌+◌, List, [], ◌∷◌, eqb, get_or}
use Rattle.text.specs.Truth.{pick}
use Rattle.sums.specs.declared.Lot.{Lot}

-- the cents of the open bulks of a service, of a sequence type
abbrev pub cell : ℕ → ℕ → List Lot → ℕ
cell service type [] = 0
cell service type (x ∷ l) = pick (eqb x.service service) (get_or x.sums type 0) 0 + cell service type l

abbrev pub row : ℕ → List Lot → List ℕ
row service l = cell service 0 l ∷ cell service 1 l ∷ cell service 2 l ∷ cell service 3 l ∷ []

-- a service counts from 1, as its bulk has it
unfoldable pub table_of : List Lot → List (List ℕ)
table_of l = row 1 l ∷ row 2 l ∷ []

-- "zero if refused"
abbrev pub zeros : List (List ℕ)
zeros = (0 ∷ 0 ∷ 0 ∷ 0 ∷ []) ∷ (0 ∷ 0 ∷ 0 ∷ 0 ∷ []) ∷ []
