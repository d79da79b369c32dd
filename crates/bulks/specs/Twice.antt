-- One item standing twice in succession: refused with 24 at the second one's TxId, but where 1 or 12 comes first.
use Rattle.std.specs.Prelude.{ℕ, suc, ◌≤◌, ◌<◌, ◌≡◌, List, length}
use Rattle.profile.specs.declared.Field.{Field}
use Rattle.profile.specs.declared.Field.TheVariants.{TxId}
use Rattle.profile.specs.declared.Version.{Version}
use Rattle.profile.specs.Limits.{most_bytes, most_items}
use Rattle.reading.specs.Trace.{Trace, met, up_to, fault}
use Rattle.reading.specs.Rules.{of_field}
use Rattle.reading.specs.Judged.{place_in}
use Rattle.reading.specs.Verdict.{Judged, refused}
use Rattle.items.specs.Alone.{alone}

-- where the first value of a field begins, in what stands from a place on; 0 where there is none
abbrev pub value_place : Field → Trace → ℕ
value_place f (met e t) = place_in (of_field f e.what) e.place (value_place f t)
value_place f (up_to p) = 0
value_place f (fault n q) = 0

-- how a message is refused in which item i stands once more, with its `<` at a place: 1, where it is too long; 12 at that place, where that is item 10,001;
-- and else 24 at the first byte of the TxId of the item that stands there
pub data Twice (v : Version) (m : List ℕ) (i place : ℕ) : Judged → Type 0 where
  too_long : most_bytes < length m → Twice v m i place (refused 1 0)
  too_many : length m ≤ most_bytes → suc i ≡ most_items → Twice v m i place (refused 12 place)
  same_id : length m ≤ most_bytes → suc i < most_items → Twice v m i place (refused 24 (value_place TxId (alone v m place)))
