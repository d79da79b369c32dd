-- What the code's own types mean.
use Rattle.std.specs.Prelude.{ℕ, zero, suc, Bool, false, List, [], ◌∷◌, eqb, leb, Option, Some, None, Result, Ok, Err}
use Rattle.text.specs.Truth.{pick}
use Rattle.answers.specs.declared.Refused.{Refused}
use Rattle.answers.specs.Refusals.{refusal_number}
use Rattle.money.specs.declared.Range.TheVariants.{Total}
use Rattle.money.specs.Amount.{most}
use Rattle.book.specs.declared.Entry.{Entry}
use Rattle.book.specs.declared.Numbers.{Numbers}
use Rattle.book.specs.declared.Call as asking
use Rattle.book.specs.declared.Call.TheVariants.{Enter, Withdraw, Unfit}
use Rattle.book.specs.Book.{Key, Book, is_open, first_at}
use Rattle.book.specs.Calls.{Told, done, refusal, Bulk, bulk, unfit, Call, enter, withdraw, Searched, at, nowhere, none}
use Rattle.book.specs.Stored.{Stored, Carried}

-- no header says more cents than its range has, so the judge lets no such bulk through: 9
abbrev pub in_range : Entry → Bulk
in_range e = pick (leb e.cents (most Total)) (bulk e) (unfit 9 0)

-- the paper's call for each of the code's
abbrev pub call_as : asking.Call → Call
call_as (Enter e) = enter (in_range e)
call_as (Withdraw k) = withdraw k
call_as (Unfit r) = enter (unfit (refusal_number r.why) r.at)

-- what is told: cents, or the refusal by its number and place
abbrev pub told_as : Result ℕ Refused → Told
told_as (Ok cents) = done cents
told_as (Err r) = refusal (refusal_number r.why) r.at

abbrev pub searched_as : Result (Option ℕ) Refused → Searched
searched_as (Ok (Some i)) = at i
searched_as (Ok None) = nowhere
searched_as (Err r) = none (refusal_number r.why) r.at

-- where the first entry that has the key stands, if one has it
abbrev pub place_in : Key → List Entry → Option ℕ
place_in k l = pick (is_open k l) (Some (first_at k l)) None

-- a sum, if it is in the header's range
abbrev pub capped : ℕ → Option ℕ
capped n = pick (leb n (most Total)) (Some n) None

-- a list of entries, n of them open; and with t stored
abbrev pub book_of : List Entry → ℕ → Book
book_of l n = record { entries = l; number = n }

abbrev pub stored_of : List Entry → ℕ → ℕ → Stored
stored_of l n t = record { book = book_of l n; total = t }

-- a lent list with the two numbers beside it
abbrev pub lent : List Entry → Numbers → Stored
lent l s = stored_of l s.opened s.total

-- what a call tells, and what it leaves of the list and the numbers
abbrev pub leaves : Result ℕ Refused → List Entry → Numbers → Carried
leaves r l s = record { told = told_as r; stored = lent l s }

-- a checked book whose sum is t
abbrev pub sum_is : Result ℕ Refused → ℕ → Bool
sum_is (Ok cents) t = eqb t cents
sum_is (Err r) t = false

-- a list without what stands at a place
abbrev pub left_out : {A : Type 0} → ℕ → List A → List A
left_out i [] = []
left_out zero (x ∷ l) = l
left_out (suc i) (x ∷ l) = x ∷ left_out i l
