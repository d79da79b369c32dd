-- Request 12: "Store the open total in the book beside the number open". The book itself, and what each call does to it, stay request 5's (Book.antt, Calls.antt).
use Rattle.std.specs.Prelude.{ℕ, ◌+◌, ◌-◌, Bool, eqb}
use Rattle.text.specs.Truth.{both, pick}
use Rattle.book.specs.Book.{Book, open_total, is_book}
use Rattle.book.specs.Calls.{Told, done, refusal, Outcome, Call, enter, withdraw, called}

pub record Stored : Type 0 where
  pub book : Book
  pub total : ℕ

-- "the stored total is .. what summing gives"
abbrev pub agrees : Stored → Bool
agrees s = eqb s.total (open_total s.book)

pub record Carried : Type 0 where
  pub told : Told
  pub stored : Stored

-- "Refusals, book unchanged": nor the stored total
abbrev pub as_lent : ℕ → ℕ → Stored → Carried
as_lent n p s = record { told = refusal n p; stored = s }

-- "every entry, withdrawal and refusal keeps it equal to what summing would give"
abbrev pub total_after : Call → Told → ℕ → ℕ
total_after c (refusal n p) t = t
total_after (enter x) (done cents) t = t + cents
total_after (withdraw k) (done cents) t = t - cents

abbrev pub carried : Call → ℕ → Outcome → Carried
carried c t o = record { told = o.told; stored = record { book = o.book; total = total_after c o.told t } }

-- "29 is also given to an entry or withdrawal where the stored total is not what summing gives"
unfoldable pub kept : Call → Stored → Carried
kept c s = pick (agrees s) (carried c s.total (called c s.book)) (as_lent 29 0 s)

-- "Asking answers the stored total as it stands, never 29"
abbrev pub shown : Stored → Told
shown s = done s.total

-- whether an entry and a withdrawal take the lent book for one
abbrev pub stands : Stored → Bool
stands s = both (is_book s.book) (agrees s)
