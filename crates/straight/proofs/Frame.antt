-- The whole message: the first item, what the bulk holds, and its frame; and room for the amounts from the beginning on.
use Rattle.std.proofs.Common.{◌≡◌, ℕ, ◌≤◌, true, List, length, drop, sym, refl, ap, ◌∙◌, arith, le-leb}
use Rattle.tags.specs.declared.Look.{Look}
use Rattle.tags.specs.declared.Look.TheVariants.{Whole, Cut, Other}
use Rattle.tags.specs.Tags.{skipped, look, on_look, plain_tag, end_tag}
use Rattle.profile.specs.declared.Version.{Version}
use Rattle.profile.specs.declared.Version.TheVariants.{V02, V08}
use Rattle.profile.specs.Limits.{most_bytes}
use Rattle.profile.specs.Tree.{end}
use Rattle.profile.specs.Profile.{header_name, bulk_name, in_header, in_item, profile}
use Rattle.items.specs.Sums.{an_amount}
use Rattle.items.specs.Alone.{item_tag, item_body, alone}
use Rattle.items.proofs.Room as law
use Rattle.reading.specs.Trace.{Trace, up_to, fault, and_then, trace}
use Rattle.reading.specs.Noted.{Reading, Ended}
use Rattle.notes.specs.declared.Notes.{Notes}
use Rattle.notes.specs.Notes.{fresh, in_notes}
use Rattle.notes.specs.Steps.{reads, Good, Room, Fine}
use Rattle.notes.proofs.Notings.{here}
use Rattle.notes.proofs.Room.{adds}
use Rattle.engine.specs.Engine.{fits, message_at, places_at, item_at}
use Rattle.straight.proofs.Made.{then_up_to}
use Rattle.straight.specs.Exact.{open_of, end_of, due_item, more_of, the_items, in_bulk, Makes}
use Rattle.straight.proofs.Elements.{end_is}
use Rattle.straight.proofs.Groups.{then_each, next_is, group_is}
use Rattle.straight.proofs.Wholes.{Keeps}
use Rattle.straight.proofs.Again.{item_leaves}

abbrev Going : Type 0
Going = Reading (Ended Notes)

abbrev sum : Notes → ℕ
sum n = n.sum

abbrev count : Notes → ℕ
count n = n.count

-- ---- room: no amount is due in the header, and an item makes room for its own
pub header_keeps : (v : Version) (m : List ℕ) → Keeps 0 (trace (in_header v) m)
unfolding in_header
header_keeps V02 m p x r = law.leaves_trace an_amount in_notes sum count adds m (in_header V02) refl 0 p x r
header_keeps V08 m p x r = law.leaves_trace an_amount in_notes sum count adds m (in_header V08) refl 0 p x r

pub first_keeps : (v : Version) (m : List ℕ) → Keeps 0 (due_item v m)
first_keeps v m p x r = go (look item_tag (drop (skipped m p) m))
  where
    go : (c : Look) → law.Leaves an_amount in_notes sum count adds 0 (on_look c (item_body v m (skipped m p)) (fault 3 (length m)) (fault 4 (skipped m p))) x
    go Whole = item_leaves v m (skipped m p) x r
    go Cut = omega (arith, r)
    go Other = omega (arith, r)

-- ---- the definition
module _ (v : Version) (m : List ℕ) where
  -- one item or more is the first, and those that come again
  items-are : (p : ℕ) → trace (the_items v) m p ≡ and_then (due_item v m p) (more_of v m (length m))
  items-are p = go (look item_tag (drop (skipped m p) m))
    where
      q : ℕ
      q = skipped m p

      go : (c : Look) → on_look c (and_then (item_body v m q) (more_of v m (length m))) (fault 3 (length m)) (fault 4 q)
          ≡ and_then (on_look c (item_body v m q) (fault 3 (length m)) (fault 4 q)) (more_of v m (length m))
      go Whole = refl
      go Cut = refl
      go Other = refl

  pub bulk_is : (p : ℕ) → and_then (and_then (and_then (open_of (plain_tag header_name) m p) (trace (in_header v) m)) (due_item v m)) (more_of v m (length m)) ≡ trace (in_bulk v) m p
  bulk_is p =
      let a = and_then (open_of (plain_tag header_name) m p) (trace (in_header v) m) in
      sym (group_is m header_name (in_header v) (the_items v) (trace (in_header v) m) (λ z. refl) p ∙ next_is a (trace (the_items v) m) (due_item v m) (more_of v m (length m)) items-are)

  pub profile_is : (p : ℕ) → and_then (and_then (open_of (plain_tag bulk_name) m p) (trace (in_bulk v) m)) (end_of (end_tag "Document") m) ≡ trace (profile v) m p
  unfolding profile in_header in_item
  profile_is p =
      let a = and_then (open_of (plain_tag bulk_name) m p) (trace (in_bulk v) m) in
      sym (group_is m bulk_name (in_bulk v) (end "Document") (trace (in_bulk v) m) (λ z. refl) p ∙ then_each a (trace (end "Document") m) (end_of (end_tag "Document") m) (end_is m "Document"))

-- ---- from a place on, with nothing noted before
module _ (v : Version) (m : List ℕ) (p : ℕ) (h : length m ≤ most_bytes) (g : p ≤ length m) where
  near : fits m p ≡ true
  near = rw (le-leb (length m) most_bytes h, le-leb p (length m) g)

  begun : Good m (here p fresh)
  begun = record { small = h; within = g; counted = omega arith }

  module _ (s : Ended Notes) (e : s ≡ here p fresh) where
    pub starts_good : Good m s
    starts_good = rw e begun

    pub starts_room : Room 0 s.notes
    starts_room = rw e (omega arith)

    pub message_makes : (l : List ℕ) (x : Going) (y : List ℕ) → Makes m (trace (profile v) m s.at) s.notes l x y → (x ≡ message_at v m p) × Fine m 0 x × (y ≡ places_at v m p l)
    unfolding message_at places_at
    message_makes l x y j = (j.is ∙ rw (near, e), j.fine, j.places ∙ rw (near, e))

    alone-is : (n : Notes) → reads (alone v m p) n ≡ reads (due_item v m p) n
    unfolding alone
    alone-is n = go (look item_tag (drop (skipped m p) m))
      where
        q : ℕ
        q = skipped m p

        go : (c : Look) → reads (on_look c (and_then (item_body v m q) up_to) (fault 3 (length m)) (fault 4 q)) n ≡ reads (on_look c (item_body v m q) (fault 3 (length m)) (fault 4 q)) n
        go Whole = ap (λ (t : Trace). reads t n) (then_up_to (item_body v m q))
        go Cut = refl
        go Other = refl

    pub item_makes : (l : List ℕ) (x : Going) (y : List ℕ) → Makes m (due_item v m s.at) s.notes l x y → (x ≡ item_at v m p) × Fine m 0 x
    unfolding item_at
    item_makes l x y j =
        let i : x ≡ reads (due_item v m p) fresh = rw e at j.is in
        (i ∙ (sym (alone-is fresh) ∙ rw near), j.fine)
