-- The next message, and the index between.
use mathlib.Core.Path.{◌≡◌, refl, sym, ap, ◌∙◌}
use mathlib.Core.Bool.{Bool, true, false}
use mathlib.Core.List.{List}
use Prim.Native.Nat.{ℕ, ◌≤◌}
use borrow.Author.Tests.{le-leb, le-ltb}
use lib.Dec.{ltb}
use lib.ListN.{length}
use Rattle.std.proofs.Common.{Option, Some, None}
use Rattle.text.specs.Truth.{pick}
use Rattle.text.proofs.Truths.{never}
use Rattle.naming.specs.Key.{Keyed as KeyedBulk, keyed}
use Rattle.twice.specs.Twice.{least_index, cleared}
use Rattle.judge.proofs.Index.{in_room}
use Rattle.keys.specs.Indexed.{unkeyed, keyed_with}
use Rattle.recording.specs.Record.{Line}
use Rattle.sums.specs.declared.Lot.{Lot}
use Rattle.sums.specs.Sums.{no_lot, lot_of, lot_with}
use Rattle.sums.proofs.Laws.{lot_most}
use Rattle.play.specs.Play.{Run, Step, refuses, lies, message_at, enters, enters_next}
use Rattle.play.specs.Code.{Light, message_in, FreshIndex}

-- ---- a cleared index with room
module _ (index : List ℕ) (f : FreshIndex index) where
  room : ltb (length index) least_index ≡ false
  room = le-ltb (length index) least_index f.room

  pub cleared_same : cleared index ≡ index
  unfolding cleared
  cleared_same = rw (le-leb least_index (length index) f.room) (sym f.clear)

  pub keyed_same : (m : List ℕ) (k : KeyedBulk) → k ≡ keyed_with index m → k ≡ keyed m
  keyed_same m k e = e ∙ in_room index (unkeyed 25 0) (keyed m) room

  pub lot_same : (m : List ℕ) (x : Lot) → x ≡ lot_with index m → x ≡ lot_of m
  lot_same m x e = e ∙ in_room index no_lot (lot_of m) room

-- ---- no bulk has more than its items may have
pub lot_light : (m : List ℕ) (x : Lot) → x ≡ lot_of m → Light x
lot_light m x e = rw e (record { first = lot_most m 0; second = lot_most m 1; third = lot_most m 2; fourth = lot_most m 3 })

-- ---- the next message
module _ (buffer ends : List ℕ) (l : Line) (r : Run) where
  next_is : (b : Bool) (x : Step) → lies buffer ends r.taken ≡ b → x ≡ pick b (enters (message_at buffer ends r.taken) l r) (refuses 28) → x ≡ enters_next buffer ends l r
  next_is b x e h = h ∙ rw e

  pub none_lies : None ≡ message_in buffer ends r.taken → refuses 28 ≡ enters_next buffer ends l r
  none_lies h = go (lies buffer ends r.taken) refl h
    where
      go : (b : Bool) → lies buffer ends r.taken ≡ b → None ≡ pick b (Some (message_at buffer ends r.taken)) None → refuses 28 ≡ enters_next buffer ends l r
      go true e h = never (cc)
      go false e h = next_is false (refuses 28) e refl

  pub next_lies : (m : List ℕ) → Some m ≡ message_in buffer ends r.taken → (x : Step) → x ≡ enters m l r → x ≡ enters_next buffer ends l r
  next_lies m h x w = go (lies buffer ends r.taken) refl h
    where
      go : (b : Bool) → lies buffer ends r.taken ≡ b → Some m ≡ pick b (Some (message_at buffer ends r.taken)) None → x ≡ enters_next buffer ends l r
      go true e h =
          let z : m ≡ message_at buffer ends r.taken = cc in
          next_is true x e (w ∙ ap (λ (t : List ℕ). enters t l r) z)
      go false e h = never (cc)

  -- it is one of those that the list of ends has
  pub taken_in : (m : List ℕ) → Some m ≡ message_in buffer ends r.taken → lies buffer ends r.taken ≡ true
  taken_in m h = go (lies buffer ends r.taken) h
    where
      go : (b : Bool) → Some m ≡ pick b (Some (message_at buffer ends r.taken)) None → b ≡ true
      go true h = refl
      go false h = never (cc)
