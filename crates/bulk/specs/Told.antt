-- The C face's three words for each answer:
--   the value holds              0, 0, 0
--   a count or an amount holds   0, its number or cents, 0
--   a message is accepted        0, its count, its cents
--   an item lies                 0, the place of its `<`, the place behind its `>`
--   the plain form is written    0, its length, 0
--   refused                      the refusal's number, its place, 0
-- and for each call of the day book:
--   a bulk is entered or withdrawn   0, the number open afterwards, the bulk's cents
--   the open total, as it is stored  0, the number open, the cents
--   the lent book is one             0, 0, 0, else 29, 0, 0
--   an entry has the key             0, 1, its place
--   none has it                      0, 0, 0
--   refused                          the refusal's number, its place, 0
-- and its ten words for a recording that is played back:
--   played    0, the number of records, the eight sums of the table, row behind row
--   refused   the refusal's number, its place, eight times 0
use Rattle.std.specs.Prelude.{ℕ, ◌≡◌, Bool, true, false, List, [], ◌∷◌, get_or}
use Rattle.answers.specs.Given.{Given, yes, worth, refused}
use Rattle.reading.specs.Verdict.{Judged, accepted, refused as denied, Located, lies, not_there}
use Rattle.forms.specs.Written.{Answered, written, refused as not_written}
use Rattle.plain.specs.Indexed.{WroteWith}
use Rattle.book.specs.declared.Entry.{Entry}
use Rattle.book.specs.Calls.{Told, done, refusal, Searched, at, nowhere, none}
use Rattle.book.specs.Stored.{Stored, Carried}
use Rattle.book.specs.Code.{stored_of}
use Rattle.accounts.specs.Lengths.{in_one}
use Rattle.play.specs.Play.{Played}

abbrev pub told : Given → List ℕ
told yes = 0 ∷ 0 ∷ 0 ∷ []
told (worth v) = 0 ∷ v ∷ 0 ∷ []
told (refused n) = n ∷ 0 ∷ 0 ∷ []

abbrev pub told_verdict : Judged → List ℕ
told_verdict (accepted count cents) = 0 ∷ count ∷ cents ∷ []
told_verdict (denied number place) = number ∷ place ∷ 0 ∷ []

abbrev pub told_extent : Located → List ℕ
told_extent (lies from to) = 0 ∷ from ∷ to ∷ []
told_extent (not_there number place) = number ∷ place ∷ 0 ∷ []

abbrev pub told_written : Answered → List ℕ
told_written (written length) = 0 ∷ length ∷ 0 ∷ []
told_written (not_written number place) = number ∷ place ∷ 0 ∷ []

-- of an index, a message and a lent area: the three words, and the area afterwards
pub record PlainTold (i m a words b : List ℕ) : Type 0 where
  pub answer : Answered
  pub wrote : WroteWith i m a (record { answer = answer; area = b })
  pub told : words ≡ told_written answer

-- of what a call tells, and the number open
abbrev pub told_book : Told → ℕ → List ℕ
told_book (done cents) opened = 0 ∷ opened ∷ cents ∷ []
told_book (refusal number place) opened = number ∷ place ∷ 0 ∷ []

-- of a call that is carried out or refused
abbrev pub told_call : Carried → List ℕ
told_call c = told_book c.told c.stored.book.number

abbrev pub told_is : Bool → List ℕ
told_is true = 0 ∷ 0 ∷ 0 ∷ []
told_is false = 29 ∷ 0 ∷ 0 ∷ []

abbrev pub told_found : Searched → List ℕ
told_found (at place) = 0 ∷ 1 ∷ place ∷ []
told_found nowhere = 0 ∷ 0 ∷ 0 ∷ []
told_found (none number place) = number ∷ place ∷ 0 ∷ []

-- ---- a lent book: its entries, and beside them two numbers, the number open and the stored total
abbrev pub lent_book : List Entry → List ℕ → Stored
lent_book l o = stored_of l (get_or o 0 0) (get_or o 1 0)

abbrev pub numbers_of : Stored → List ℕ
numbers_of s = s.book.number ∷ s.total ∷ []

-- ---- a recording that is played back
abbrev pub told_table : Told → List (List ℕ) → List ℕ
told_table (done records) t = 0 ∷ records ∷ in_one t
told_table (refusal number place) t = number ∷ place ∷ in_one t

unfoldable pub told_played : Played → List ℕ
told_played p = told_table p.told p.table
