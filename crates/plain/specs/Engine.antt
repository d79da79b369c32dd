-- How the code goes through a message: from tag to tag. That it comes to the plain form of the message's document is proofs/Documents.antt.
use Rattle.std.specs.Prelude.{ℕ, zero, suc, ◌-◌, Bool, not, List, [], ◌∷◌, ◌++◌, length, take, drop, eqb}
use Rattle.text.specs.Truth.{pick, lead}
use Rattle.text.specs.Quoted.{byte, is, alike}
use Rattle.tags.specs.Tags.{starts_question, declaration}
use Rattle.tags.specs.Values.{in_value}
use Rattle.words.specs.Collapsed.{collapsed}
use Rattle.profile.specs.Profile.{count_tag, words_tag}
use Rattle.money.specs.Plain.{without_zeros, plain_amount}
use Rattle.plain.specs.declared.Spelling.{Spelling}
use Rattle.plain.specs.declared.Spelling.TheVariants.{Nothing, AsRead, Collapsed, Number, Amount}

-- ---- a tag, and what stands behind it
abbrev pub in_tag : ℕ → Bool
in_tag c = not (eqb c (byte ">"))

abbrev pub tag_of : List ℕ → List ℕ
tag_of s = take (suc (lead in_tag s)) s

abbrev pub behind_tag : List ℕ → List ℕ
behind_tag s = drop (suc (lead in_tag s)) s

-- up to the next tag, and from the next tag on
abbrev pub up_to_tag : List ℕ → List ℕ
up_to_tag s = take (lead in_value s) s

abbrev pub from_tag : List ℕ → List ℕ
from_tag s = drop (lead in_value s) s

abbrev pub next_of : List ℕ → List ℕ
next_of s = from_tag (behind_tag s)

-- ---- how what stands between is written
-- an end tag
unfoldable pub closes : List ℕ → Bool
closes s = is "</" (take 2 s)

-- a tag with an attribute
unfoldable pub quoted : List ℕ → Bool
quoted t = is "\">" (drop (length t - 2) t)

-- by the tag before it and the one behind it: a value stands between a start tag and an end tag
unfoldable pub spelling_by : List ℕ → List ℕ → Spelling
spelling_by t r =
    pick (closes t) Nothing
    (pick (closes r) (pick (alike count_tag t) Number (pick (quoted t) Amount (pick (words_tag t) Collapsed AsRead))) Nothing)

abbrev pub spelled : Spelling → List ℕ → List ℕ
spelled Nothing v = []
spelled AsRead v = v
spelled Collapsed v = collapsed v
spelled Number v = without_zeros v
spelled Amount v = plain_amount v

-- ---- piece by piece
abbrev pub piece_of : List ℕ → List ℕ
piece_of s = tag_of s ++ spelled (spelling_by (tag_of s) (next_of s)) (up_to_tag (behind_tag s))

-- at most i pieces
abbrev pub pieces_in : ℕ → List ℕ → List ℕ
pieces_in zero s = []
pieces_in (suc i) [] = []
pieces_in (suc i) (c ∷ s) = piece_of (c ∷ s) ++ pieces_in i (next_of (c ∷ s))

-- (A text of n bytes has no more than n pieces.)
unfoldable pub pieces : List ℕ → List ℕ
pieces s = pieces_in (length s) s

-- ---- from the first tag on, without the declaration
abbrev pub declared_length : List ℕ → ℕ
declared_length m = pick (starts_question m) (length declaration) 0

unfoldable pub body_of : List ℕ → List ℕ
body_of m = from_tag (drop (declared_length m) m)
