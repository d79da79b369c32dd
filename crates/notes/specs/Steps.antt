-- What a step of the code means, and the bounds that it keeps.
use Rattle.std.specs.Prelude.{ℕ, ◌+◌, ◌*◌, ◌≤◌, List, length}
use Rattle.std.specs.Prelude.{Result, Ok, Err}
use Rattle.answers.specs.declared.Refused.{Refused}
use Rattle.answers.specs.Refusals.{refusal_number}
use Rattle.money.specs.declared.Range.TheVariants.{Item as an_item}
use Rattle.money.specs.Amount.{most}
use Rattle.profile.specs.Limits.{most_bytes, most_items}
use Rattle.reading.specs.Trace.{Trace}
use Rattle.reading.specs.Noted.{Reading, on, stop, onward, Ended, noted}
use Rattle.notes.specs.declared.Notes.{Notes}
use Rattle.notes.specs.declared.State.{State}
use Rattle.notes.specs.Notes.{in_notes}

abbrev pub stated : State → Ended Notes
stated st = record { at = st.at; notes = st.notes }

-- a step that is taken goes on; a refusal ends the reading, with this paper's number and its place
abbrev pub stepped : Result State Refused → Reading (Ended Notes)
stepped (Ok st) = on (stated st)
stepped (Err r) = stop (refusal_number r.why) r.at

-- the notes of one entry, at a place
abbrev pub staying : ℕ → Reading Notes → Reading (Ended Notes)
staying p x = onward x (λ n. on (record { at = p; notes = n }))

-- going along what stands in a message, with the code's way of noting
abbrev pub reads : Trace → Notes → Reading (Ended Notes)
reads t n = noted in_notes t n

-- a state that a message allows: within it, and its numbers within their ranges
pub record Good (m : List ℕ) (s : Ended Notes) : Type 0 where
  pub small : length m ≤ most_bytes
  pub within : s.at ≤ length m
  pub counted : s.notes.count ≤ most_items

-- there is room for x amounts more, where each item that has begun makes room for one
abbrev pub Room : ℕ → Notes → Type 0
Room x n = n.sum + x * most an_item ≤ n.count * most an_item

-- a reading from a place on: it goes on there or later, and stops within the message
abbrev pub Fine : List ℕ → ℕ → Reading (Ended Notes) → Type 0
Fine m p (on s) = Good m s × (p ≤ s.at)
Fine m p (stop n q) = q ≤ length m
