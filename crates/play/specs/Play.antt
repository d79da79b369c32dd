-- Request 13: "When the clearer's day report disagrees, we must rerun the day from a recording".
use Rattle.std.specs.Prelude.{ℕ, zero, suc, ◌+◌, ◌-◌, ◌*◌, ◌/◌, Bool, List, [], ◌∷◌, ◌++◌, length, take, drop, get_or, leb, ltb}
use Rattle.text.specs.Truth.{pick, all_of, part}
use Rattle.text.specs.Quoted.{alike}
use Rattle.reading.specs.Verdict.{Judged, accepted, refused}
use Rattle.naming.specs.Key.{keyed}
use Rattle.recording.specs.Record.{line_length, Line, line_of}
use Rattle.sums.specs.declared.Lot.{Lot}
use Rattle.sums.specs.Sums.{lot_of}
use Rattle.judge.specs.Index.{or_short}
use Rattle.book.specs.declared.Entry.{Entry}
use Rattle.book.specs.Book.{most_open, open_in, first_at}
use Rattle.book.specs.Calls.{Told, done, refusal, bulk_of, enter, withdraw}
use Rattle.book.specs.Stored.{Stored, Carried, kept}
use Rattle.book.specs.Code.{left_out}
use Rattle.play.specs.Table.{table_of, zeros}

-- ---- the run between two records: the book; what each open bulk adds to the table, in the order of the open ones; how many messages are taken; the last instant
pub record Run : Type 0 where
  pub stored : Stored
  pub lots : List Lot
  pub taken : ℕ
  pub last : ℕ

-- "The run first empties the book": nothing is open and 0 is stored; the places keep what they hold
abbrev pub emptied : List Entry → Run
emptied l = record { stored = record { book = record { entries = l; number = 0 }; total = 0 }; lots = []; taken = 0; last = 0 }

-- a record is carried out, and the run goes on; or it is refused, with a number
pub data Step : Type 0 where
  on : Run → Step
  refuses : ℕ → Step

-- ---- "The messages lie one after another in one lent buffer, with a lent list of their ends": message j from the end before it to its own
abbrev pub begins : List ℕ → ℕ → ℕ
begins ends j = get_or (0 ∷ ends) j 0

abbrev pub stops : List ℕ → ℕ → ℕ
stops ends j = get_or ends j 0

unfoldable pub message_at : List ℕ → List ℕ → ℕ → List ℕ
message_at buffer ends j = part (begins ends j) (stops ends j - begins ends j) buffer

-- "28 no message left, or its end falls or lies outside the buffer"
unfoldable pub lies : List ℕ → List ℕ → ℕ → Bool
lies buffer ends j = all_of (ltb j (length ends) ∷ leb (begins ends j) (stops ends j) ∷ leb (stops ends j) (length buffer) ∷ [])

-- ---- "the book's own": a call that holds goes on with what it leaves
abbrev pub onward : Told → Run → Step
onward (done cents) r = on r
onward (refusal n p) r = refuses n

abbrev pub carried_on : Carried → List Lot → ℕ → ℕ → Step
carried_on c lots taken last = onward c.told (record { stored = c.stored; lots = lots; taken = taken; last = last })

-- an entry: "the judge's own; 28 key does not agree; the book's own"
abbrev pub enters_if : Judged → List ℕ → Line → Run → Step
enters_if (refused n p) m l r = refuses n
enters_if (accepted count cents) m l r =
    pick (alike (keyed m).key l.key)
    (carried_on (kept (enter (bulk_of (keyed m))) r.stored) (r.lots ++ (lot_of m ∷ [])) (suc r.taken) l.instant)
    (refuses 28)

unfoldable pub enters : List ℕ → Line → Run → Step
enters m l r = enters_if (keyed m).verdict m l r

-- a withdrawal: "the book's own"
unfoldable pub withdraws : Line → Run → Step
withdraws l r = carried_on (kept (withdraw l.key) r.stored) (left_out (first_at l.key (open_in r.stored.book)) r.lots) r.taken l.instant

-- "Each `E` is matched with the next of them"
abbrev pub enters_next : List ℕ → List ℕ → Line → Run → Step
enters_next buffer ends l r = pick (lies buffer ends r.taken) (enters (message_at buffer ends r.taken) l r) (refuses 28)

abbrev pub asked : List ℕ → List ℕ → Line → Run → Step
asked buffer ends l r = pick l.entering (enters_next buffer ends l r) (withdraws l r)

-- "26 a field not of its kind [..] or a wrong last length; 27 time falls; 28 [..]"
abbrev pub step_of : List ℕ → List ℕ → Line → Run → Step
step_of buffer ends l r = pick l.fits (pick (ltb l.instant r.last) (refuses 27) (asked buffer ends l r)) (refuses 26)

unfoldable pub step : List ℕ → List ℕ → List ℕ → Run → Step
step buffer ends bytes r = step_of buffer ends (line_of bytes) r

-- ---- the whole run
-- "64-byte records, no header": record i, and how many there are, a last one that is too short among them
abbrev pub record_at : List ℕ → ℕ → List ℕ
record_at recording i = take line_length (drop (line_length * i) recording)

abbrev pub records : List ℕ → ℕ
records recording = (length recording + (line_length - 1)) / line_length

-- what is answered (how many records, or a number and a record's number), the book and the table
pub record Played : Type 0 where
  pub told : Told
  pub stored : Stored
  pub table : List (List ℕ)

abbrev pub as_lent : ℕ → ℕ → Stored → Played
as_lent n i s = record { told = refusal n i; stored = s; table = zeros }

-- "After the last record, 28 with the number of records if messages are left over."
abbrev pub ended : List ℕ → ℕ → Run → Played
ended ends i r =
    pick (ltb r.taken (length ends))
    (as_lent 28 i r.stored)
    (record { told = done i; stored = r.stored; table = table_of r.lots })

-- "Refusals, place the record's number from 0, book as before that record"
abbrev pub go_on : Step → ℕ → Run → (Run → Played) → Played
go_on (on s) i r f = f s
go_on (refuses n) i r f = as_lent n i r.stored

-- so many records from record i on
unfoldable pub play_from : List ℕ → List ℕ → List ℕ → ℕ → ℕ → Run → Played
play_from recording buffer ends zero i r = ended ends i r
play_from recording buffer ends (suc n) i r = go_on (step buffer ends (record_at recording i) r) i r (play_from recording buffer ends n (suc i))

unfoldable pub played : List ℕ → List ℕ → List ℕ → List Entry → Played
played recording buffer ends l = play_from recording buffer ends (records recording) 0 (emptied l)

-- "first 25, then 29 for a book under 64 places (both place 0, book as lent)"
unfoldable pub played_with : List ℕ → List ℕ → List ℕ → List ℕ → Stored → Played
played_with index recording buffer ends s =
    or_short index (as_lent 25 0 s)
    (pick (leb most_open (length s.book.entries)) (played recording buffer ends s.book.entries) (as_lent 29 0 s))
