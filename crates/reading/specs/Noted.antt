-- Going along what stands in a message, and noting it in any way.
use Rattle.std.specs.Prelude.{ℕ}
use Rattle.reading.specs.Trace.{Entry, Trace, met, up_to, fault}

-- reading goes on, with S noted; or the first fault has ended it, with a number and a place
pub data Reading (S : Type 0) : Type 0 where
  on : S → Reading S
  stop : ℕ → ℕ → Reading S

abbrev pub onward : {S T : Type 0} → Reading S → (S → Reading T) → Reading T
onward (on s) f = f s
onward (stop n p) f = stop n p

-- where reading ended, and what is noted by then
pub record Ended (S : Type 0) : Type 0 where
  pub at : ℕ
  pub notes : S

-- a way of noting: what an entry adds to what is noted, or why it is refused
abbrev pub Noting : Type 0 → Type 0
Noting S = Entry → S → Reading S

-- "reading goes left to right and the first fault met ends it"
abbrev pub noted : {S : Type 0} → Noting S → Trace → S → Reading (Ended S)
noted note (met e t) s = onward (note e s) (noted note t)
noted note (up_to p) s = on (record { at = p; notes = s })
noted note (fault n q) s = stop n q
