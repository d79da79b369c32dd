-- "the end state is that of the same calls made one by one"
use Rattle.std.specs.Prelude.{ℕ, zero, suc, ◌+◌, ◌≡◌, List, [], ◌∷◌}
use Rattle.text.specs.Truth.{pick}
use Rattle.naming.specs.Key.{keyed}
use Rattle.recording.specs.Record.{Line, line_of}
use Rattle.book.specs.declared.Entry.{Entry}
use Rattle.book.specs.Calls.{Told, done, refusal, bulk_of, Call, enter, withdraw}
use Rattle.book.specs.Stored.{Stored, kept}
use Rattle.days.specs.Day.{empty_stored, after_stored}
use Rattle.play.specs.Play.{message_at, record_at, Played}

-- the call of a record: an entry of message j, which is the next one, or a withdrawal
abbrev pub call_of : List ℕ → List ℕ → Line → ℕ → Call
call_of buffer ends l j = pick l.entering (enter (bulk_of (keyed (message_at buffer ends j)))) (withdraw l.key)

-- the calls of so many records from record i on, where j messages are taken before
abbrev pub calls_from : List ℕ → List ℕ → List ℕ → ℕ → ℕ → ℕ → List Call
calls_from recording buffer ends zero i j = []
calls_from recording buffer ends (suc n) i j =
    call_of buffer ends (line_of (record_at recording i)) j
    ∷ calls_from recording buffer ends n (suc i) (pick (line_of (record_at recording i)).entering 1 0 + j)

-- those of the first records
abbrev pub calls : List ℕ → List ℕ → List ℕ → ℕ → List Call
calls recording buffer ends n = calls_from recording buffer ends n 0 0

-- a call is carried out; all of them, one behind the other
abbrev pub Held : Told → Type 0
Held (done cents) = Unit {0}
Held (refusal n p) = ⊥

abbrev pub AllHeld : List Call → Stored → Type 0
AllHeld [] s = Unit {0}
AllHeld (c ∷ l) s = Held (kept c s).told × AllHeld l (kept c s).stored

-- how many records were carried out: all, or those before the one that is refused
abbrev pub reached : Told → ℕ
reached (done i) = i
reached (refusal n i) = i

-- what is played is what the calls of the records before the place come to, made one by one from the emptied book, and each of them was carried out
pub record SameCalls (recording buffer ends : List ℕ) (l : List Entry) (p : Played) : Type 0 where
  pub stored : p.stored ≡ after_stored (calls recording buffer ends (reached p.told)) (empty_stored l)
  pub held : AllHeld (calls recording buffer ends (reached p.told)) (empty_stored l)
