-- An item that the quick reader tells: it begins, there is room for its amount, and it is the first, or one more of those that come.
use Rattle.std.proofs.Common.{◌≡◌, ℕ, ◌-◌, ◌<◌, ◌≤◌, List, length, sym, refl, ◌∙◌, arith}
use Rattle.tags.specs.declared.Look.TheVariants.{Whole}
use Rattle.tags.specs.Tags.{skipped}
use Rattle.profile.specs.declared.Version.{Version}
use Rattle.profile.specs.Profile.{in_item}
use Rattle.items.specs.Alone.{item_tag, item_body}
use Rattle.reading.specs.Trace.{fault, trace}
use Rattle.reading.specs.Noted.{Reading, on, onward, Ended}
use Rattle.notes.specs.declared.Notes.{Notes}
use Rattle.notes.specs.Notes.{item_noted}
use Rattle.notes.specs.Steps.{staying, Good, Room}
use Rattle.notes.proofs.Notings.{here}
use Rattle.notes.proofs.Stays.{good_at}
use Rattle.straight.specs.Exact.{due_item, Makes, ItemBegins, Onward}
use Rattle.straight.proofs.Begins.{item_fine, item_room, item_makes}
use Rattle.straight.proofs.Groups.{by_whole}
use Rattle.straight.proofs.Again.{loop_next}

abbrev Going : Type 0
Going = Reading (Ended Notes)

-- behind u an item's start tag stands, up to at, and the item is counted in y: reading goes on at its end, with room for its amount; what it holds makes it whole
pub record Begun (v : Version) (m : List ℕ) (u : Ended Notes) (at : ℕ) (y : Ended Notes) : Type 0 where
  pub begins : ItemBegins m u.at at
  pub within : at ≤ length m
  pub was : Good m u
  pub good : Good m (here at y.notes)
  pub room : Room 1 y.notes
  pub whole : (l : List ℕ) (z : Ended Notes) (f : List ℕ) → Makes m (trace (in_item v) m at) y.notes l (on z) f → Makes m (item_body v m (skipped m u.at)) u.notes l (on z) f

-- so it is where it begins at b, by a step a that goes on
module _ (v : Version) (m : List ℕ) (u : Ended Notes) (good : Good m u) (room : Room 0 u.notes) (at : ℕ) (i : ItemBegins m u.at at) (within : at ≤ length m)
    (b : Ended Notes) (d : b ≡ here (at - 14) u.notes) (a : Going) (e : a ≡ staying b.at (item_noted b.at b.notes)) (y : Ended Notes) (w : on y ≡ a) where
  abbrev place : ℕ
  place = skipped m u.at

  abbrev inner : Going
  inner = on (here at y.notes)

  starts : a ≡ staying place (item_noted place u.notes)
  starts = let z : at - 14 ≡ place = omega (arith, i.behind) in e ∙ rw (d, z) refl

  goes : inner ≡ onward a (λ s. on (here at s.notes))
  goes = rw (← w) refl

  pub begun : Begun v m u at y
  begun = record {
    begins = i;
    within = within;
    was = good;
    good = (item_fine m place u.notes a inner starts at goes (good_at m u place good (omega (arith, i.behind))) within).0;
    room = item_room m place u.notes a inner starts at goes room;
    whole = λ l z f j. item_makes m place u.notes a inner starts at goes v i.behind l (on z) f (j.is, j.fine, j.places);
  }

module _ {v : Version} {m : List ℕ} {u : Ended Notes} {at : ℕ} {y : Ended Notes} (x : Begun v m u at y) (l : List ℕ) (z : Ended Notes) (f : List ℕ)
    (j : Makes m (trace (in_item v) m at) y.notes l (on z) f) where
  abbrev q : ℕ
  q = skipped m u.at

  near : q ≤ length m
  near = omega (arith, x.begins.behind, x.within)

  -- one more of those that come
  pub swift_next : (n : ℕ) (r₀ : Going) (l₀ : List ℕ) (left : ℕ) → Onward v m n r₀ l₀ left (on u) l → 1 < left → length f ≡ length l → Onward v m n r₀ l₀ (left - 1) (on z) f
  swift_next n r₀ l₀ left k some h =
      loop_next v m n r₀ l₀ left (on u) l k u refl (omega arith) x.was q refl near Whole (sym x.begins.whole) refl (here q u.notes) refl (on z) f (x.whole l z f j) h

  -- the first, which is due
  pub swift_first : Makes m (due_item v m u.at) u.notes l (on z) f
  swift_first = by_whole m u.at u.notes x.was item_tag q refl near Whole (sym x.begins.whole) (item_body v m) (fault 4) l refl (on z) f (x.whole l z f j)
