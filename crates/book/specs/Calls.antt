-- What each call of the day book answers, and the book afterwards.
use Rattle.std.specs.Prelude.{ℕ, ◌+◌, ◌-◌, ◌++◌, drop, set, leb}
use Rattle.text.specs.Truth.{pick}
use Rattle.reading.specs.Verdict.{Judged, accepted, refused}
use Rattle.naming.specs.Key.{Keyed}
use Rattle.book.specs.declared.Entry.{Entry}
use Rattle.book.specs.Book.{Key, Book, most_open, open_in, is_open, open_total, is_book, first_at, without, cents_of}

-- a call that holds answers cents; another is refused, with a number and a place
pub data Told : Type 0 where
  done : ℕ → Told
  refusal : ℕ → ℕ → Told

pub record Outcome : Type 0 where
  pub told : Told
  pub book : Book

-- "Refusals, book unchanged"
abbrev pub unchanged : ℕ → ℕ → Book → Outcome
unchanged n p b = record { told = refusal n p; book = b }

-- "29 first, from any call, the lent book is none"
abbrev pub in_book : Book → Outcome → Outcome
in_book b o = pick (is_book b) o (unchanged 29 0 b)

-- ---- a message, to the book: a bulk to enter, or the judge's own refusal
pub data Bulk : Type 0 where
  bulk : Entry → Bulk
  unfit : ℕ → ℕ → Bulk

abbrev pub bulk_if : Judged → Key → Bulk
bulk_if (accepted count cents) k = bulk (record { key = k; cents = cents })
bulk_if (refused n p) k = unfit n p

abbrev pub bulk_of : Keyed → Bulk
bulk_of k = bulk_if k.verdict k.key

-- ---- an entry: behind the open ones
abbrev pub added : Entry → Book → Book
added e b = record { entries = set b.entries b.number e; number = b.number + 1 }

-- "for an entry the judge's own, then 20, key open already; 21, 64 open"
abbrev pub enters : Bulk → Book → Outcome
enters (unfit n p) b = unchanged n p b
enters (bulk e) b =
    pick (is_open e.key (open_in b))
    (unchanged 20 0 b)
    (pick (leb most_open b.number)
    (unchanged 21 0 b)
    (record { told = done e.cents; book = added e b }))

unfoldable pub entered : Bulk → Book → Outcome
entered x b = in_book b (enters x b)

-- ---- "a withdrawal names a key and keeps the others' order; places past the open ones keep what they held"
abbrev pub lessened : Key → Book → Book
lessened k b = record { entries = without k (open_in b) ++ drop (b.number - 1) b.entries; number = b.number - 1 }

-- "for a withdrawal 22, key not open"
abbrev pub withdraws : Key → Book → Outcome
withdraws k b =
    pick (is_open k (open_in b))
    (record { told = done (cents_of k (open_in b)); book = lessened k b })
    (unchanged 22 0 b)

unfoldable pub withdrawn : Key → Book → Outcome
withdrawn k b = in_book b (withdraws k b)

-- ---- a call that changes the book
pub data Call : Type 0 where
  enter : Bulk → Call
  withdraw : Key → Call

abbrev pub called : Call → Book → Outcome
called (enter x) b = entered x b
called (withdraw k) b = withdrawn k b

-- ---- the questions leave the book: the open total, and a search
pub data Searched : Type 0 where
  at : ℕ → Searched
  nowhere : Searched
  none : ℕ → ℕ → Searched

unfoldable pub asked : Book → Told
asked b = pick (is_book b) (done (open_total b)) (refusal 29 0)

unfoldable pub searched : Key → Book → Searched
searched k b = pick (is_book b) (pick (is_open k (open_in b)) (at (first_at k (open_in b))) nowhere) (none 29 0)
