-- An item from its start tag on: one more, and room for its amount; and what its end says.
use Rattle.std.proofs.Common.{◌≡◌, ℕ, ◌+◌, ◌≤◌, Bool, true, false, ltb, List, length, drop, sym, refl, ap, ◌∙◌, arith}
use Rattle.text.specs.Truth.{pick}
use Rattle.tags.specs.Tags.{skipped, plain_tag}
use Rattle.tags.proofs.Looks.{look_text}
use Rattle.profile.specs.declared.Version.{Version}
use Rattle.profile.specs.Limits.{most_items}
use Rattle.profile.specs.Tree.{many}
use Rattle.profile.specs.Profile.{item_name, in_item}
use Rattle.items.specs.Alone.{item_body}
use Rattle.reading.specs.Trace.{Trace, and_then, ends, trace}
use Rattle.reading.specs.Noted.{Reading, on, stop, onward, Ended}
use Rattle.reading.proofs.Flat.{noted_then}
use Rattle.notes.specs.declared.Notes.{Notes}
use Rattle.notes.specs.Notes.{with_item, item_noted, in_notes}
use Rattle.notes.specs.Steps.{staying, reads, Good, Room, Fine}
use Rattle.notes.proofs.Notings.{here}
use Rattle.notes.proofs.Stays.{begun_fine}
use Rattle.engine.specs.Engine.{or_else, placed}
use Rattle.engine.proofs.Placed.{ends_placed}
use Rattle.straight.specs.Due.{Past}
use Rattle.straight.specs.Exact.{Makes, Behind, ItemBegins}
use Rattle.straight.proofs.Elements.{MakesThen, makes_by}
use Rattle.straight.proofs.Types.{after_fine}

abbrev Going : Type 0
Going = Reading (Ended Notes)

module _ (m : List ℕ) (q : ℕ) (x : Notes) where
  -- one more, so there is room for its amount
  begun-room : Room 0 x → Behind (staying q (item_noted q x)) (Room 1)
  unfolding item_noted
  begun-room r = go (ltb x.count most_items)
    where
      go : (b : Bool) → Behind (staying q (pick b (on (with_item q x)) (stop 12 q))) (Room 1)
      go true = omega (arith, r)
      go false = tt

  module _ (a b : Going) (e : a ≡ staying q (item_noted q x)) (z : ℕ) (f : b ≡ onward a (λ s. on (here z s.notes))) where
    pub item_fine : Good m (here q x) → z ≤ length m → Fine m 0 b
    item_fine g h = after_fine m q z a b (rw e (begun_fine m q x g)) h f

    pub item_room : Room 0 x → Behind b (Room 1)
    item_room r = rw f (go a (rw e (begun-room r)))
      where
        go : (c : Going) → Behind c (Room 1) → Behind (onward c (λ s. on (here z s.notes))) (Room 1)
        go (on s) h = h
        go (stop n p) h = tt

    -- its end says nothing that is noted
    ended : (t : Trace) (u : Notes) → reads (and_then t (ends many)) u ≡ reads t u
    ended t u = noted_then in_notes t (ends many) u ∙ go (reads t u)
      where
        go : (w : Going) → onward w (λ s. reads (ends many s.at) s.notes) ≡ w
        go (on s) = refl
        go (stop n p) = refl

    pub item_makes : (v : Version) → z ≡ q + length (plain_tag item_name) → (l : List ℕ) (r : Going) (y : List ℕ) → MakesThen m (trace (in_item v) m) b l r y → Makes m (item_body v m q) x l r y
    item_makes v h l r y i = makes_by 0 r (go (item_noted q x) (f ∙ ap (λ (c : Going). onward c (λ s. on (here z s.notes))) e))
      where
        inner : Trace
        inner = trace (in_item v) m (q + length (plain_tag item_name))

        same : (u : Notes) → reads (trace (in_item v) m z) u ≡ reads (and_then inner (ends many)) u
        same u = ap (λ (k : ℕ). reads (trace (in_item v) m k) u) h ∙ sym (ended inner u)

        places : (u : Notes) → placed (trace (in_item v) m z) u l ≡ placed (and_then inner (ends many)) u l
        places u = ap (λ (k : ℕ). placed (trace (in_item v) m k) u l) h ∙ sym (ends_placed many inner u l)

        go : (w : Reading Notes) → b ≡ onward (staying q w) (λ s. on (here z s.notes))
            → (r ≡ onward w (reads (and_then inner (ends many)))) × Fine m 0 r × (y ≡ or_else w (λ u. placed (and_then inner (ends many)) u l) l)
        go (on u) k = (
          i.0 ∙ (ap (λ (c : Going). onward c (λ s. reads (trace (in_item v) m s.at) s.notes)) k ∙ same u),
          i.1,
          i.2 ∙ (ap (λ (c : Going). or_else c (λ s. placed (trace (in_item v) m s.at) s.notes l) l) k ∙ places u),
        )
        go (stop n p) k = (
          i.0 ∙ ap (λ (c : Going). onward c (λ s. reads (trace (in_item v) m s.at) s.notes)) k,
          i.1,
          i.2 ∙ ap (λ (c : Going). or_else c (λ s. placed (trace (in_item v) m s.at) s.notes l) l) k,
        )

-- where it is refused
pub item_refused : (m : List ℕ) (q : ℕ) (x : Notes) → Good m (here q x) → q + 14 ≤ length m → (a : Going) → a ≡ staying q (item_noted q x) → (n p : ℕ) → stop n p ≡ a → (v : Version) (l : List ℕ)
    → Makes m (item_body v m q) x l (stop n p) l
item_refused m q x g w a e n p h v l =
    let f : stop n p ≡ onward a (λ (s : Ended Notes). on (here (q + 14) s.notes)) = rw (← h) refl in
    item_makes m q x a (stop n p) e (q + 14) f v refl l (stop n p) l (refl, item_fine m q x a (stop n p) e (q + 14) f g w, refl)

-- its start tag, after white space
pub item_begins_lem : (m : List ℕ) (p q r : ℕ) → q ≡ skipped m p → Past m q (plain_tag item_name) r → ItemBegins m p r
item_begins_lem m p q r e f = record {
  whole = rw (← e, f.stands) (look_text (plain_tag item_name) (drop r m));
  behind = f.place ∙ ap (λ (k : ℕ). k + 14) e;
}
