-- What the functions tell of a value's raw bytes on the way to its collapsed ones, and what an area holds into which those are written.
use Rattle.std.specs.Prelude.{ℕ, Bool, List, ◌++◌, length, take, drop, ltb}
use Rattle.text.specs.Truth.{pick, lead}
use Rattle.words.specs.Collapsed.{space, as_space}

-- a byte that counts as space
unfoldable pub blank : ℕ → Bool
blank c = space (as_space c)

-- how many of the first bytes become one: a run of blanks, or one byte
abbrev pub run : List ℕ → ℕ
run s = pick (ltb (lead blank s) 1) 1 (lead blank s)

-- an area a with t written from its start on: t as far as there is room, and behind it what the area held
unfoldable pub overwritten : List ℕ → List ℕ → List ℕ
overwritten t a = take (length a) t ++ drop (length t) a
