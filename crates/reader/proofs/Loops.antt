-- The group reader's loop: what holds at its head, and each way on from there.
use mathlib.Core.Path.{◌≡◌, refl, sym, ap, ◌∙◌}
use mathlib.Core.Bool.{Bool, true, false}
use mathlib.Core.List.{List}
use Prim.Native.Nat.{ℕ, zero, suc, ◌+◌, ◌≤◌, ◌<◌}
use native.Mathlib.Omega.{arith}
use lib.ListN.{length, drop}
use Rattle.text.specs.Truth.{pick}
use Rattle.tags.specs.declared.Look.{Look}
use Rattle.tags.specs.declared.Look.TheVariants.{Whole, Cut, Other}
use Rattle.tags.specs.Tags.{skipped, look}
use Rattle.profile.specs.declared.Version.{Version}
use Rattle.profile.specs.Tree.{more}
use Rattle.reading.specs.Trace.{Trace, up_to, missing, trace}
use Rattle.reading.specs.Noted.{Reading, on, stop, Ended}
use Rattle.reading.proofs.Flat.{never}
use Rattle.items.specs.Sums.{amounts_in}
use Rattle.table.specs.declared.Occ as code
use Rattle.table.specs.declared.Row.{Row}
use Rattle.table.specs.Table.{repeats, tags, occ_of, mark_name, opens_by, due, many_rows}
use Rattle.notes.specs.declared.Notes.{Notes}
use Rattle.notes.specs.Steps.{reads, Good, Room, Fine}
use Rattle.notes.proofs.Notings.{here}
use Rattle.notes.proofs.Stays.{later}
use Rattle.engine.specs.Engine.{placed}
use Rattle.engine.proofs.Steps.{passed_on, fine_on, halts}
use Rattle.engine.proofs.Elements.{missing_fine}
use Rattle.reader.specs.Reader.{element_in, rest_in, amounts_of}
use Rattle.reader.proofs.Room.{split, item_own, missing_room, element_room, due_fair}
use Rattle.reader.proofs.Turns.{from, start, Tells, cut, missed, passed, failed, gone_on, repeated, deep, rest_deep}
use Rattle.reader.proofs.Turns.{cut_placed, missed_placed, passed_placed, failed_placed, gone_on_placed, repeated_placed}

abbrev Found : Type 0
Found = Reading (Ended Notes)

-- what is due at the start is what is due here, with room for as many turns as bytes are left, and for the amounts that are due; an element that is seen again is an item
pub record Loop (v : Version) (m : List ℕ) (first : ℕ) (s₀ : Ended Notes) (l₀ : List ℕ) (k : ℕ) (seen : Bool) (s : Ended Notes) (l : List ℕ) : Type 0 where
  pub row : k < many_rows v
  pub good : Good m s
  pub on : s₀.at ≤ s.at
  pub depth : deep (due v k) ≤ deep (due v first)
  pub left : ℕ
  pub room : length m ≤ s.at + left
  pub amounts : Room (amounts_in (due v k)) s.notes
  pub again : pick seen (amounts_of (due v k)) 0 ≡ 0
  pub same : reads (trace (due v first) m s₀.at) s₀.notes ≡ reads (from m left seen (due v k) s.at) s.notes
  pub long : length l ≡ length l₀
  pub places : placed (trace (due v first) m s₀.at) s₀.notes l₀ ≡ placed (from m left seen (due v k) s.at) s.notes l

pub begin : (v : Version) (m : List ℕ) (k : ℕ) (s : Ended Notes) (l : List ℕ) → Good m s → k < many_rows v → Room (amounts_in (due v k)) s.notes → Loop v m k s l k false s l
begin v m k s l g h a =
    record {
      row = h;
      good = g;
      on = omega arith;
      depth = omega arith;
      left = length m;
      room = omega arith;
      amounts = a;
      again = refl;
      same = ap (λ (t : Trace). reads t s.notes) (start m (due v k) s.at);
      long = refl;
      places = ap (λ (t : Trace). placed t s.notes l) (start m (due v k) s.at);
    }

module _ (v : Version) (m : List ℕ) (first : ℕ) (s₀ : Ended Notes) (l₀ : List ℕ) (k : ℕ) (seen : Bool) (s : Ended Notes) (ps : List ℕ) (l : Loop v m first s₀ l₀ k seen s ps)
    (q : Ended Notes) (at : q ≡ here (skipped m s.at) s.notes) (good : Good m q) (on_to : s.at ≤ q.at) where
  -- the notes are the same behind white space
  due-room : Room (amounts_in (due v k)) q.notes
  due-room = rw at l.amounts

  pub element_amounts : Room (amounts_of (due v k)) q.notes
  element_amounts = omega (arith, due-room, split (due v k))

  -- what is shown of `group`
  abbrev pub Reads : Found → List ℕ → Type 0
  Reads x y = (x ≡ reads (trace (due v first) m s₀.at) s₀.notes) × Fine m s₀.at x × (y ≡ placed (trace (due v first) m s₀.at) s₀.notes l₀)

  pub loop_end : (x : Found) → x ≡ reads (from m l.left seen (due v k) s.at) s.notes → Fine m q.at x → ps ≡ placed (from m l.left seen (due v k) s.at) s.notes ps → Reads x ps
  loop_end x e f g = (e ∙ sym l.same, later m s₀.at q.at (omega (arith, l.on)) x f, g ∙ sym l.places)

  module _ (r : Row) (next_row : r.next < many_rows v) (names : List ℕ) (lent : names ≡ tags v) (t : Tells v k (due v k) r)
      (occ : code.Occ) (now : occ_of occ ≡ pick seen more (occ_of r.occ)) (w : Look) (lies : w ≡ look (opens_by names r) (drop q.at m)) where
    says : (c : Look) → w ≡ c → c ≡ look (opens_by (tags v) r) (drop (skipped m s.at) m)
    says c e = sym e ∙ (lies ∙ rw (lent, at))

    -- on to the row behind
    on-to-next : (u : Ended Notes) (y : List ℕ) → length y ≡ length ps → Good m u → q.at ≤ u.at → Room (amounts_in (rest_in (due v k))) u.notes
        → reads (from m l.left seen (due v k) s.at) s.notes ≡ reads (trace (due v r.next) m u.at) u.notes
        → placed (from m l.left seen (due v k) s.at) s.notes ps ≡ placed (trace (due v r.next) m u.at) u.notes y
        → Loop v m first s₀ l₀ r.next false u y
    on-to-next u y z g h a e f =
        let d : deep (due v r.next) ≤ deep (due v first) = rw t.next (omega (arith, rest_deep (due v k), l.depth)) in
        record {
          row = next_row;
          good = g;
          on = omega (arith, l.on);
          depth = d;
          left = length m;
          room = omega arith;
          amounts = rw t.next a;
          again = refl;
          same = l.same ∙ (e ∙ ap (λ (t : Trace). reads t u.notes) (start m (due v r.next) u.at));
          long = z ∙ l.long;
          places = l.places ∙ (f ∙ ap (λ (t : Trace). placed t u.notes y) (start m (due v r.next) u.at));
        }

    -- a step ended the reading
    stopped_by : (p : ℕ) (b : Found) (z : List ℕ) → Fine m p b
        → ((n y : ℕ) → stop n y ≡ b → (reads (from m l.left seen (due v k) s.at) s.notes ≡ stop n y) × (placed (from m l.left seen (due v k) s.at) s.notes ps ≡ z))
        → halts b ≡ true → Reads b z
    stopped_by p (on u) z f g h = never (cc)
    stopped_by p (stop n y) z f g h = (sym (l.same ∙ (g n y refl).0), f, sym (l.places ∙ (g n y refl).1))

    pub loop_cut : w ≡ Cut → (x : Found) → x ≡ stop 3 (length m) → Reads x ps
    loop_cut e x z =
        let y = passed_on m s₀.at x (stop 3 (length m)) (reads (trace (due v first) m s₀.at) s₀.notes) z
        (sym (l.same ∙ cut m v k (due v k) r t l.left seen occ now s.at s.notes (says Cut e))) (omega arith) in
        (y.0, y.1, sym (l.places ∙ cut_placed m v k (due v k) r t l.left seen occ now s.at s.notes ps (says Cut e)))

    module _ (e : w ≡ Other) (b : Found) (held : b ≡ reads (missing (occ_of occ) (mark_name r.typed) q.at (up_to q.at)) q.notes) where
      missed-in : b ≡ reads (missing (occ_of occ) (mark_name r.typed) (skipped m s.at) (up_to (skipped m s.at))) s.notes
      missed-in = held ∙ rw at

      fine : Fine m q.at b
      fine = rw held (missing_fine m (occ_of occ) (mark_name r.typed) q.at q.notes good)

      pub loop_miss : halts b ≡ true → Reads b ps
      loop_miss h =
          stopped_by q.at b ps fine
          (λ n y z. (
            missed m v k (due v k) r t l.left seen occ now s.at s.notes (says Other e) n y (z ∙ missed-in),
            missed_placed m v k (due v k) r t l.left seen occ now s.at s.notes ps (says Other e) n y (z ∙ missed-in),
          )) h

      pub loop_pass : (u : Ended Notes) → on u ≡ b → Loop v m first s₀ l₀ r.next false u ps
      loop_pass u z =
          let g = fine_on m q.at b u z fine in
          on-to-next u ps refl g.0 g.1
          (missing_room (occ_of occ) (mark_name r.typed) q.at q.notes u (z ∙ held) (amounts_in (rest_in (due v k))) (omega (arith, due-room, split (due v k))))
          (passed m v k (due v k) r t l.left seen occ now s.at s.notes (says Other e) u (z ∙ missed-in))
          (passed_placed m v k (due v k) r t l.left seen occ now s.at s.notes ps (says Other e) u (z ∙ missed-in))

    module _ (e : w ≡ Whole) (b : Found) (held : b ≡ reads (element_in (due v k) m q.at) q.notes) (fit : Fine m (q.at + 1) b)
        (ys : List ℕ) (kept : ys ≡ placed (element_in (due v k) m q.at) q.notes ps) (as_long : length ys ≡ length ps) where
      kept_in : placed (element_in (due v k) m (skipped m s.at)) s.notes ps ≡ ys
      kept_in = sym (kept ∙ rw at)

      in_place : b ≡ reads (element_in (due v k) m (skipped m s.at)) s.notes
      in_place = held ∙ rw at

      pub loop_fail : halts b ≡ true → Reads b ys
      loop_fail h =
          stopped_by (q.at + 1) b ys fit
          (λ n y z. (
            failed m v k (due v k) r t l.left seen occ now s.at s.notes (says Whole e) n y (z ∙ in_place),
            failed_placed m v k (due v k) r t l.left seen occ now s.at s.notes ps (says Whole e) n y (z ∙ in_place) ∙ kept_in,
          )) h

      beyond : (u : Ended Notes) → on u ≡ b → Good m u × (q.at + 1 ≤ u.at)
      beyond u z = fine_on m (q.at + 1) b u z fit

      behind : (u : Ended Notes) → on u ≡ b → Room (amounts_in (rest_in (due v k))) u.notes
      behind u z = element_room m (due v k) (due_fair v k) q.at q.notes u (z ∙ held) (amounts_in (rest_in (due v k))) (omega (arith, due-room, split (due v k)))

      pub loop_next : (u : Ended Notes) → on u ≡ b → repeats occ ≡ false → Loop v m first s₀ l₀ r.next false u ys
      loop_next u z h =
          on-to-next u ys as_long (beyond u z).0 (omega (arith, (beyond u z).1)) (behind u z)
          (gone_on m v k (due v k) r t l.left seen occ now s.at s.notes (says Whole e) u (z ∙ in_place) h)
          (gone_on_placed m v k (due v k) r t l.left seen occ now s.at s.notes ps (says Whole e) u (z ∙ in_place) h
          ∙ ap (placed (trace (due v r.next) m u.at) u.notes) kept_in)

      pub loop_more : (u : Ended Notes) → on u ≡ b → repeats occ ≡ true → Loop v m first s₀ l₀ k true u ys
      loop_more u z h = go l.left refl
        where
          past : q.at + 1 ≤ u.at
          past = (beyond u z).1

          items : amounts_of (due v k) ≡ 0
          items = said seen l.again now
            where
              said : (b : Bool) → pick b (amounts_of (due v k)) 0 ≡ 0 → occ_of occ ≡ pick b more (occ_of r.occ) → amounts_of (due v k) ≡ 0
              said true e f = e
              said false e f = item_own (due v k) occ h (f ∙ t.occ)

          go : (i : ℕ) → l.left ≡ i → Loop v m first s₀ l₀ k true u ys
          go zero f = absurd (let y : ⊥ = omega (arith, l.room, past, (beyond u z).0.within) in y)
          go (suc j) f =
              record {
                row = l.row;
                good = (beyond u z).0;
                on = omega (arith, l.on, past);
                depth = l.depth;
                left = j;
                room = omega (arith, l.room, past);
                amounts = omega (arith, behind u z, split (due v k), items);
                again = items;
                same = l.same ∙ repeated m v k (due v k) r t l.left seen occ now s.at s.notes (says Whole e) u (z ∙ in_place) h j f;
                long = as_long ∙ l.long;
                places =
                    l.places
                    ∙ (repeated_placed m v k (due v k) r t l.left seen occ now s.at s.notes ps (says Whole e) u (z ∙ in_place) h j f
                    ∙ ap (placed (from m j true (due v k) u.at) u.notes) kept_in);
              }
