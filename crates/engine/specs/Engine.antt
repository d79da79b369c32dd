-- What an engine reads, and what it answers, whatever leads it.
use Rattle.std.specs.Prelude.{ℕ, suc, ◌+◌, Bool, List, length, drop, get_or, set, leb, ltb, Result, Ok, Err}
use Rattle.answers.specs.declared.Refused.{Refused}
use Rattle.answers.specs.Refusals.{refusal_number}
use Rattle.text.specs.Truth.{both, pick}
use Rattle.tags.specs.Tags.{look, on_look}
use Rattle.tags.specs.Values.{value_at, behind_value}
use Rattle.profile.specs.declared.Kind.{Kind}
use Rattle.profile.specs.declared.Field.{Field}
use Rattle.profile.specs.declared.Field.TheVariants.{TxId}
use Rattle.profile.specs.declared.Version.{Version}
use Rattle.profile.specs.Limits.{most_bytes, most_items}
use Rattle.profile.specs.Fields.{same_field}
use Rattle.profile.specs.Profile.{profile}
use Rattle.reading.specs.Trace.{What, item_begins, item_ends, there, absent, value, ◌at◌, Trace, met, up_to, fault, trace}
use Rattle.reading.specs.Noted.{Reading, on, stop, Ended}
use Rattle.items.specs.Alone.{alone}
use Rattle.notes.specs.declared.Notes.{Notes}
use Rattle.notes.specs.Notes.{fresh, in_notes}
use Rattle.notes.specs.Steps.{reads}

-- on from s, where nothing is refused
abbrev pub going_on : Ended Notes → Result (Unit {0}) Refused → Reading (Ended Notes)
going_on s (Ok u) = on s
going_on s (Err r) = stop (refusal_number r.why) r.at

-- an end tag that is due at a place
unfoldable pub closed_by : List (ℕ → Bool) → List ℕ → ℕ → Trace
closed_by tag m p = on_look (look tag (drop p m)) (up_to (p + length tag)) (fault 3 (length m)) (fault 4 p)

-- a value and its end tag
unfoldable pub valued_by : List (ℕ → Bool) → Kind → Field → List ℕ → ℕ → Trace
valued_by tag k f m p =
    pick (ltb (behind_value m p) (length m)) (met (value k f (value_at m p) at p) (closed_by tag m (behind_value m p))) (fault 3 (length m))

-- ---- where the TxIds begin that were read, one behind the other, in a list that says first how many there are
abbrev pub filed : ℕ → List ℕ → List ℕ
filed p l =
    pick (both (ltb (get_or l 0 0) most_items) (ltb (suc (get_or l 0 0)) (length l)))
    (set (set l 0 (suc (get_or l 0 0))) (suc (get_or l 0 0)) p)
    l

unfoldable pub filed_by : Field → ℕ → List ℕ → List ℕ
filed_by f p l = pick (same_field f TxId) (filed p l) l

abbrev pub filed_of : What → ℕ → List ℕ → List ℕ
filed_of item_begins p l = l
filed_of item_ends p l = l
filed_of (there n) p l = l
filed_of (absent n) p l = l
filed_of (value k f v) p l = filed_by f p l

-- what is made of a reading that goes on, or else what is given
abbrev pub or_else : {S : Type 0} → Reading S → (S → List ℕ) → List ℕ → List ℕ
or_else (on s) f l = f s
or_else (stop n p) f l = l

-- as far as reading goes
abbrev pub placed : Trace → Notes → List ℕ → List ℕ
placed (met e t) n l = or_else (in_notes e n) (λ u. placed t u (filed_of e.what e.place l)) l
placed (up_to p) n l = l
placed (fault k q) n l = l

-- ---- what the other crates ask, with nothing noted before
abbrev pub fits : List ℕ → ℕ → Bool
fits m p = both (leb (length m) most_bytes) (leb p (length m))

-- the whole profile from a place on
unfoldable pub message_at : Version → List ℕ → ℕ → Reading (Ended Notes)
message_at v m p = pick (fits m p) (reads (trace (profile v) m p) fresh) (stop 1 0)

-- and where its TxIds begin
unfoldable pub places_at : Version → List ℕ → ℕ → List ℕ → List ℕ
places_at v m p l = pick (fits m p) (placed (trace (profile v) m p) fresh l) l

-- the item at a place, after white space
unfoldable pub item_at : Version → List ℕ → ℕ → Reading (Ended Notes)
item_at v m p = pick (fits m p) (reads (alone v m p) fresh) (stop 1 0)
