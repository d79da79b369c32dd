-- A refusal leaves the area as lent.
use mathlib.Core.Path.{◌≡◌, refl}
use mathlib.Core.Bool.{Bool, true, false}
use mathlib.Core.List.{List, ◌++◌}
use Prim.Native.Nat.{ℕ, ◌*◌}
use lib.ListN.{length, drop}
use lib.Dec.{ltb}
use Rattle.text.specs.Truth.{pick}
use Rattle.reading.specs.Verdict.{Judged, accepted, refused}
use Rattle.reading.specs.Judged.{judged}
use Rattle.reading.specs.Items.{the_header, the_items}
use Rattle.reading.proofs.Flat.{never}
use Rattle.postings.specs.Record.{record_length}
use Rattle.postings.specs.Area.{records_for, Outcome, as_lent, outcome, recorded}

-- "leaves the record area exactly as lent"
pub refused_as_lent : (m a : List ℕ) (n p : ℕ) → (recorded m a).verdict ≡ refused n p → (recorded m a).area ≡ a
unfolding recorded
refused_as_lent m a n p = go (judged m)
  where
    full : ℕ → ℕ → Outcome
    full count cents = record { verdict = accepted count cents; area = records_for (the_header m) (the_items m) ++ drop (record_length * count) a }

    room : (b : Bool) (count cents : ℕ) → (pick b (as_lent 17 0 a) (full count cents)).verdict ≡ refused n p → (pick b (as_lent 17 0 a) (full count cents)).area ≡ a
    room true count cents e = refl
    room false count cents e = never (cc)

    go : (j : Judged) → (outcome (the_header m) (the_items m) a j).verdict ≡ refused n p → (outcome (the_header m) (the_items m) a j).area ≡ a
    go (refused i q) e = refl
    go (accepted count cents) e = room (ltb (length a) (record_length * count)) count cents e
