-- The table has eight sums, also where it is zero.
use mathlib.Core.Path.{◌≡◌, refl}
use mathlib.Core.Bool.{Bool, true, false}
use mathlib.Core.List.{List}
use Prim.Native.Nat.{ℕ, zero, suc}
use lib.Dec.{leb, ltb}
use lib.ListN.{length}
use Rattle.text.specs.Truth.{pick}
use Rattle.accounts.specs.Lengths.{in_one}
use Rattle.judge.proofs.Index.{Indexed, short, roomy, indexed, in_short, in_room}
use Rattle.book.specs.Book.{most_open}
use Rattle.book.specs.Calls.{done}
use Rattle.book.specs.Stored.{Stored}
use Rattle.play.specs.Table.{table_of}
use Rattle.play.specs.Play.{Run, Step, on, refuses, step, record_at, Played, as_lent, go_on, play_from, played}
use Rattle.play.specs.Code.{played_on}

abbrev pub Eight : Played → Type 0
Eight p = length (in_one p.table) ≡ 8

module _ (recording buffer ends : List ℕ) where
  from-eight : (n i : ℕ) (r : Run) → Eight (play_from recording buffer ends n i r)
  unfolding play_from table_of
  from-eight zero i r = go (ltb r.taken (length ends))
    where
      go : (b : Bool) → Eight (pick b (as_lent 28 i r.stored) (record { told = done i; stored = r.stored; table = table_of r.lots }))
      go true = refl
      go false = refl
  from-eight (suc n) i r = go (step buffer ends (record_at recording i) r) (from-eight n (suc i))
    where
      go : (s : Step) → ((r : Run) → Eight (play_from recording buffer ends n (suc i) r)) → Eight (go_on s i r (play_from recording buffer ends n (suc i)))
      go (on s) k = k s
      go (refuses m) k = refl

  pub table_eight : (places : ℕ) (index : List ℕ) (s : Stored) → Eight (played_on places index recording buffer ends s)
  unfolding played_on played
  table_eight places index s = go (indexed index)
    where
      room : (b : Bool) → Eight (pick b (played recording buffer ends s.book.entries) (as_lent 29 0 s))
      room true = from-eight _ 0 _
      room false = refl

      go : Indexed index → Eight (played_on places index recording buffer ends s)
      go (short h) = rw (in_short index _ _ h)
      go (roomy h) = rw (in_room index _ _ h) (room (leb most_open places))
