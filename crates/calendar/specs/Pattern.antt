-- A value written as a pattern such as "YYYY-MM-DD": each letter of it stands for a digit, and any other character for itself.
use Rattle.std.specs.Prelude.{ℕ, Bool, List, eqb}
use Prim.Native.String.{String}
use Rattle.text.specs.Truth.{pick, paired}
use Rattle.text.specs.Quoted.{bytes, among}
use Rattle.text.specs.Classes.{digit}

unfoldable pub letter : ℕ → Bool
letter = among "A-Z a-z"

-- the character c at a place of the pattern that holds p
unfoldable pub stands : ℕ → ℕ → Bool
stands p c = pick (letter p) (digit c) (eqb c p)

abbrev pub matches : List ℕ → List ℕ → Bool
matches t s = paired stands t s

unfoldable pub written : String → List ℕ → Bool
written t s = matches (bytes t) s
