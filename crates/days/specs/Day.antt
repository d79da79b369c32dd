-- A day: any calls, one behind the other.
use Rattle.std.specs.Prelude.{ℕ, ◌+◌, List, [], ◌∷◌}
use Rattle.naming.specs.Key.{keyed}
use Rattle.book.specs.declared.Entry.{Entry}
use Rattle.book.specs.Book.{Key, Book}
use Rattle.book.specs.Calls.{Told, done, refusal, bulk_of, Call, enter, withdraw, called, asked, Searched, searched}
use Rattle.book.specs.Stored.{Stored, kept, shown}

-- "from an empty book": a lent list, whatever it holds, of which none is open
abbrev pub empty : List Entry → Book
empty l = record { entries = l; number = 0 }

abbrev pub after : List Call → Book → Book
after [] b = b
after (c ∷ l) b = after l (called c b).book

-- what a call enters, and what it withdraws: nothing where it is refused
abbrev pub if_done : Told → ℕ
if_done (done cents) = cents
if_done (refusal n p) = 0

abbrev pub entered_by : Call → Told → ℕ
entered_by (enter x) t = if_done t
entered_by (withdraw k) t = 0

abbrev pub withdrawn_by : Call → Told → ℕ
withdrawn_by (enter x) t = 0
withdrawn_by (withdraw k) t = if_done t

-- "the sum of all accepted entries", and "of all accepted withdrawals"
abbrev pub all_entered : List Call → Book → ℕ
all_entered [] b = 0
all_entered (c ∷ l) b = entered_by c (called c b).told + all_entered l (called c b).book

abbrev pub all_withdrawn : List Call → Book → ℕ
all_withdrawn [] b = 0
all_withdrawn (c ∷ l) b = withdrawn_by c (called c b).told + all_withdrawn l (called c b).book

-- a call of this library: a message is entered, whatever it is, or a key is withdrawn
pub data Made : Call → Type 0 where
  entering : (m : List ℕ) → Made (enter (bulk_of (keyed m)))
  withdrawing : (k : Key) → Made (withdraw k)

abbrev pub AllMade : List Call → Type 0
AllMade [] = Unit {0}
AllMade (c ∷ l) = Made c × AllMade l

-- ---- request 12: "No answer changes for a book made by calls from the empty one"
-- any call: one that changes the book, asking, or a search
pub data Any : Type 0 where
  change : Call → Any
  ask : Any
  search : Key → Any

pub data Answer : Type 0 where
  told : Told → Answer
  found : Searched → Answer

-- every answer of request 5's book, which sums when it is asked
abbrev pub answers : List Any → Book → List Answer
answers [] b = []
answers (change c ∷ l) b = told (called c b).told ∷ answers l (called c b).book
answers (ask ∷ l) b = told (asked b) ∷ answers l b
answers (search k ∷ l) b = found (searched k b) ∷ answers l b

-- every answer of the book with the stored total: a search does not look at it
abbrev pub stored_answers : List Any → Stored → List Answer
stored_answers [] s = []
stored_answers (change c ∷ l) s = told (kept c s).told ∷ stored_answers l (kept c s).stored
stored_answers (ask ∷ l) s = told (shown s) ∷ stored_answers l s
stored_answers (search k ∷ l) s = found (searched k s.book) ∷ stored_answers l s

-- the empty one: nothing is open, and 0 is stored
abbrev pub empty_stored : List Entry → Stored
empty_stored l = record { book = empty l; total = 0 }

abbrev pub after_stored : List Call → Stored → Stored
after_stored [] s = s
after_stored (c ∷ l) s = after_stored l (kept c s).stored

abbrev pub MadeAny : List Any → Type 0
MadeAny [] = Unit {0}
MadeAny (change c ∷ l) = Made c × MadeAny l
MadeAny (ask ∷ l) = MadeAny l
MadeAny (search k ∷ l) = MadeAny l
