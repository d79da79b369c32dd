-- What the code's own types mean, and what its functions write.
use Rattle.std.specs.Prelude.{ℕ, ◌+◌, ◌*◌, ◌≤◌, ◌≡◌, List, [], ◌∷◌, length, take, drop, set, get_or, replicate, eqb, leb, Option, Some, None, Result, Ok, Err}
use Rattle.text.specs.Truth.{pick}
use Rattle.answers.specs.declared.Refused.{Refused}
use Rattle.answers.specs.Refusals.{refusal_number}
use Rattle.items.specs.Sums.{most_sum}
use Rattle.twice.specs.Twice.{least_index}
use Rattle.judge.specs.Index.{or_short}
use Rattle.sums.specs.declared.Lot.{Lot}
use Rattle.book.specs.declared.Entry.{Entry}
use Rattle.book.specs.declared.Numbers.{Numbers}
use Rattle.book.specs.Book.{most_open}
use Rattle.book.specs.Calls.{done, refusal}
use Rattle.book.specs.Stored.{Stored}
use Rattle.book.specs.Code.{lent}
use Rattle.play.specs.declared.Run as code
use Rattle.play.specs.declared.Played as answer
use Rattle.play.specs.Table.{zeros}
use Rattle.play.specs.Play.{Run, Step, on, refuses, lies, message_at, Played, as_lent, played}

-- the paper's run of the code's, with the lent list: its lots are those of the open ones
abbrev pub run_as : List Entry → code.Run → Run
run_as l r = record { stored = lent l r.numbers; lots = take r.numbers.opened r.lots; taken = r.taken; last = r.last }

-- what a record comes to, and what it leaves of the list
abbrev pub stepped : List Entry → Result code.Run Refused → Step
stepped l (Ok r) = on (run_as l r)
stepped l (Err r) = refuses (refusal_number r.why)

-- message j, where it lies in the buffer
abbrev pub message_in : List ℕ → List ℕ → ℕ → Option (List ℕ)
message_in buffer ends j = pick (lies buffer ends j) (Some (message_at buffer ends j)) None

-- each of a row's four sums is at most n
pub record Within (n : ℕ) (row : List ℕ) : Type 0 where
  pub first : get_or row 0 0 ≤ n
  pub second : get_or row 1 0 ≤ n
  pub third : get_or row 2 0 ≤ n
  pub fourth : get_or row 3 0 ≤ n

-- no bulk has more cents than all its items may have, and at most 64 are open, so no sum of the table overflows
abbrev pub Light : Lot → Type 0
Light x = Within most_sum x.sums

abbrev pub most_cell : ℕ
most_cell = most_open * most_sum

abbrev pub AllLight : List Lot → Type 0
AllLight [] = Unit {0}
AllLight (x ∷ l) = Light x × AllLight l

pub record Sound (r : code.Run) : Type 0 where
  pub few : r.numbers.opened ≤ most_open
  pub long : length r.lots ≡ most_open
  pub light : AllLight (take r.numbers.opened r.lots)

-- two rows added, column by column
abbrev pub added_row : List ℕ → List ℕ → List ℕ
added_row a b = (get_or a 0 0 + get_or b 0 0) ∷ (get_or a 1 0 + get_or b 1 0) ∷ (get_or a 2 0 + get_or b 2 0) ∷ (get_or a 3 0 + get_or b 3 0) ∷ []

-- the table with what one bulk adds
abbrev pub with_lot : List (List ℕ) → Lot → List (List ℕ)
with_lot t x =
    pick (eqb x.service 1)
    (set t 0 (added_row (get_or t 0 []) x.sums))
    (pick (eqb x.service 2) (set t 1 (added_row (get_or t 1 []) x.sums)) t)

-- a table that is laid flat, row behind row
abbrev pub in_rows : List ℕ → List (List ℕ)
in_rows t = take 4 t ∷ drop 4 t ∷ []

-- the paper's answer of the code's, with what it leaves of the list and the numbers
abbrev pub played_as : List Entry → Numbers → Result answer.Played Refused → Played
played_as l n (Ok p) = record { told = done p.records; stored = lent l n; table = in_rows p.table }
played_as l n (Err r) = record { told = refusal (refusal_number r.why) r.at; stored = lent l n; table = zeros }

-- the first 64 entries of a list that has so many places
unfoldable pub played_on : ℕ → List ℕ → List ℕ → List ℕ → List ℕ → Stored → Played
played_on places index recording buffer ends s =
    or_short index (as_lent 25 0 s) (pick (leb most_open places) (played recording buffer ends s.book.entries) (as_lent 29 0 s))

-- an index that has room and is cleared
pub record FreshIndex (index : List ℕ) : Type 0 where
  pub room : least_index ≤ length index
  pub clear : index ≡ replicate (length index) 0
