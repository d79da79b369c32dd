-- The one line that the program writes.
use Rattle.std.specs.Prelude.{ℕ, List, ◌++◌, length, ltb, codes}
use Rattle.std.specs.Fmt.{decimal}
use Rattle.text.specs.Truth.{pick}
use Rattle.reading.specs.Verdict.{Judged, accepted, refused}
use Rattle.reading.specs.Judged.{judged}

-- a word, and two numbers with a space between them
abbrev pub line : List ℕ → ℕ → ℕ → List ℕ
line word a b = word ++ decimal a ++ codes " " ++ decimal b ++ codes "\n"

abbrev pub told : Judged → List ℕ
told (accepted count cents) = line (codes "accepted ") count cents
told (refused number place) = line (codes "refused ") number place

-- of an input: a message has at most 65,536 bytes
unfoldable pub answered : List ℕ → List ℕ
answered m = pick (ltb 65536 (length m)) (codes "too long\n") (told (judged m))
