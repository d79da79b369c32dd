-- The day book: "The open bulks are a lent list of entries and the number open, the open ones first in order of entry".
use Rattle.std.specs.Prelude.{ℕ, suc, ◌+◌, Bool, false, not, List, [], ◌∷◌, length, take, leb}
use Rattle.text.specs.Truth.{either, pick, all_of}
use Rattle.text.specs.Quoted.{alike}
use Rattle.money.specs.declared.Range.TheVariants.{Total}
use Rattle.money.specs.Amount.{most}
use Rattle.book.specs.declared.Entry.{Entry}

-- an entry has the bulk's key and its cents
abbrev pub Key : Type 0
Key = List ℕ

pub record Book : Type 0 where
  pub entries : List Entry
  pub number : ℕ

-- "keeps at most 64 open bulks"
abbrev pub most_open : ℕ
most_open = 64

abbrev pub open_in : Book → List Entry
open_in b = take b.number b.entries

-- the same key, byte for byte
abbrev pub has_key : Key → Entry → Bool
has_key k e = alike k e.key

abbrev pub is_open : Key → List Entry → Bool
is_open k [] = false
is_open k (e ∷ l) = either (has_key k e) (is_open k l)

-- "two open keys equal"
abbrev pub two_equal : List Entry → Bool
two_equal [] = false
two_equal (e ∷ l) = either (is_open e.key l) (two_equal l)

-- "the open total"
abbrev pub sum_of : List Entry → ℕ
sum_of [] = 0
sum_of (e ∷ l) = e.cents + sum_of l

abbrev pub open_total : Book → ℕ
open_total b = sum_of (open_in b)

-- "the lent book is none (under 64 places, over 64 open, two open keys equal, the open sums together above the header's upper range)"
unfoldable pub is_book : Book → Bool
is_book b =
    all_of
    (leb most_open (length b.entries)
    ∷ leb b.number most_open
    ∷ not (two_equal (open_in b))
    ∷ leb (open_total b) (most Total)
    ∷ [])

-- "A search answers the first entry with an equal key": its place from 0, or as many as there are where none has it
abbrev pub first_at : Key → List Entry → ℕ
first_at k [] = 0
first_at k (e ∷ l) = pick (has_key k e) 0 (suc (first_at k l))

-- the first entry with an equal key taken out, the others in their order; and its cents
abbrev pub without : Key → List Entry → List Entry
without k [] = []
without k (e ∷ l) = pick (has_key k e) l (e ∷ without k l)

abbrev pub cents_of : Key → List Entry → ℕ
cents_of k [] = 0
cents_of k (e ∷ l) = pick (has_key k e) e.cents (cents_of k l)
