-- "A value is everything up to the next `<`". A place counts bytes from the message's start.
use Rattle.std.specs.Prelude.{ℕ, ◌+◌, Bool, not, List, take, drop, eqb}
use Rattle.text.specs.Truth.{lead}
use Rattle.text.specs.Quoted.{byte}

abbrev pub in_value : ℕ → Bool
in_value c = not (eqb c (byte "<"))

abbrev pub value_at : List ℕ → ℕ → List ℕ
value_at m p = take (lead in_value (drop p m)) (drop p m)

abbrev pub behind_value : List ℕ → ℕ → ℕ
behind_value m p = p + lead in_value (drop p m)
