-- What each function of the judge finds, by the engine's notes.
use Rattle.std.specs.Prelude.{ℕ, zero, suc, ◌+◌, ◌≤◌, Option, Some, None, List, [], length, drop, eqb, ltb}
use Rattle.text.specs.Truth.{pick}
use Rattle.tags.specs.Tags.{skipped, look, on_look, exactly}
use Rattle.profile.specs.declared.Version.{Version}
use Rattle.profile.specs.Version.{root}
use Rattle.profile.specs.Profile.{profile}
use Rattle.profile.specs.Limits.{most_bytes}
use Rattle.reading.specs.Trace.{Opened, from, faulty, opened, trace, message}
use Rattle.reading.specs.Noted.{Reading, on, stop, Ended, noted}
use Rattle.reading.specs.Verdict.{accepted, Located, lies, not_there}
use Rattle.notes.specs.declared.Notes.{Notes}
use Rattle.notes.specs.Notes.{fresh}
use Rattle.notes.specs.Steps.{reads}
use Rattle.reading.proofs.More.{lenient}
use Rattle.engine.specs.Engine.{placed, item_at}
use Rattle.judge.specs.Found.{Found, denied, found_by}
use Rattle.judge.specs.Survey.{Surveyed, without, survey_by}

-- a place to go on from, or a fault's, lies within the message
abbrev pub Within : List ℕ → Opened → Type 0
Within m (from v p) = p ≤ length m
Within m (faulty n q) = q ≤ length m

-- the root tag of a version at a place, or else what is given
unfoldable pub root_or : Version → List ℕ → ℕ → Opened → Opened
root_or v m p other = on_look (look (exactly (root v)) (drop p m)) (from v (p + length (root v))) (faulty 3 (length m)) other

-- what stands behind the root tag, read up to the end of the root
abbrev pub through_in : List ℕ → Opened → Reading (Ended Notes)
through_in m (from v p) = reads (trace (profile v) m p) fresh
through_in m (faulty n q) = stop n q

-- what the header says, against what was read
unfoldable pub compared_in : Notes → Found
compared_in n =
    pick (eqb n.number n.count)
    (pick (eqb n.total n.sum) (record { verdict = accepted n.count n.sum; first = n.first }) (denied 15 n.totalat))
    (denied 14 n.numberat)

-- behind the end of the root
unfoldable pub finished_in : List ℕ → Ended Notes → Found
finished_in m s = pick (ltb (skipped m s.at) (length m)) (denied 16 (skipped m s.at)) (compared_in s.notes)

abbrev pub concluded_in : List ℕ → Reading (Ended Notes) → Found
concluded_in m (on s) = finished_in m s
concluded_in m (stop n p) = denied n p

-- item i of those from a place on, each read alone
abbrev pub behind_in : Reading (Ended Notes) → (ℕ → Located) → Located
behind_in (on s) f = f s.at
behind_in (stop n p) f = not_there n p

abbrev pub walked_in : ℕ → Version → List ℕ → ℕ → Located
walked_in zero v m p = behind_in (item_at v m p) (lies (skipped m p))
walked_in (suc i) v m p = behind_in (item_at v m p) (walked_in i v m)

-- ---- without the rule of 24
unfoldable pub found_but : List ℕ → Found
found_but m = found_by (noted lenient (message m) [])

unfoldable pub survey_but : List ℕ → Surveyed
survey_but m = survey_by (noted lenient (message m) [])

-- where the TxIds begin that are read, behind how many there are
abbrev pub filed_in : List ℕ → Opened → List ℕ → List ℕ
filed_in m (from v p) l = placed (trace (profile v) m p) fresh l
filed_in m (faulty n q) l = l

unfoldable pub filed_of : List ℕ → List ℕ → List ℕ
filed_of m l = pick (ltb most_bytes (length m)) l (filed_in m (opened m) l)

-- 24 where the earliest second TxId begins, or where there is none what is found without it
abbrev pub unless_second : Option ℕ → Surveyed → Surveyed
unless_second (Some p) s = without (denied 24 p)
unless_second None s = s
