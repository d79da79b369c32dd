-- Request 2: "count without leading zeros, amounts with two decimals and no needless zeros".
use Rattle.std.specs.Prelude.{ℕ, List, [], ◌∷◌, ◌++◌, drop, eqb}
use Rattle.text.specs.Truth.{pick}
use Rattle.text.specs.Quoted.{byte}
use Rattle.money.specs.Amount.{euros, behind_euros, as_two_digits}

-- without the zeros in front; the last digit stays
abbrev pub without_zeros : List ℕ → List ℕ
without_zeros [] = []
without_zeros (c ∷ []) = c ∷ []
without_zeros (c ∷ d ∷ s) = pick (eqb c (byte "0")) (without_zeros (d ∷ s)) (c ∷ d ∷ s)

-- the digits before the point without needless zeros, the point, and two decimals
unfoldable pub plain_amount : List ℕ → List ℕ
plain_amount s = without_zeros (euros s) ++ (byte "." ∷ as_two_digits (drop 1 (behind_euros s)))
