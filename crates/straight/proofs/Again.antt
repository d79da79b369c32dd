-- The loop over the items: what holds at its head, and each way on from there.
use Rattle.std.proofs.Common.{◌≡◌, ℕ, suc, ◌-◌, ◌<◌, ◌≤◌, true, List, length, drop, sym, refl, ap, ◌∙◌, arith}
use Rattle.tags.specs.declared.Look.{Look}
use Rattle.tags.specs.declared.Look.TheVariants.{Whole, Cut, Other}
use Rattle.tags.specs.Tags.{skipped, look, exactly, end_tag}
use Rattle.tags.proofs.White.{skip_twice}
use Rattle.profile.specs.declared.Version.{Version}
use Rattle.profile.specs.declared.Version.TheVariants.{V02, V08}
use Rattle.profile.specs.Tree.{many, end}
use Rattle.profile.specs.Profile.{item_name, bulk_name, in_item}
use Rattle.items.specs.Sums.{an_amount}
use Rattle.items.specs.Alone.{item_tag, item_body}
use Rattle.items.proofs.Room as law
use Rattle.reading.specs.Trace.{Trace, and_then, closed, trace}
use Rattle.reading.specs.Noted.{Reading, on, stop, onward, Ended}
use Rattle.reading.proofs.Flat.{noted_then}
use Rattle.notes.specs.declared.Notes.{Notes}
use Rattle.notes.specs.Notes.{in_notes}
use Rattle.notes.specs.Steps.{reads, Good, Room, Fine}
use Rattle.notes.proofs.Notings.{here}
use Rattle.notes.proofs.Room.{adds}
use Rattle.engine.specs.Engine.{closed_by, or_else, placed}
use Rattle.engine.proofs.Placed.{then_placed, closed_placed}
use Rattle.engine.proofs.Steps.{closed_by_lem}
use Rattle.straight.specs.Due.{Made, made}
use Rattle.straight.proofs.Made.{Alike}
use Rattle.straight.specs.Exact.{end_of, by_tag, more_of, Makes, Behind, Onward}
use Rattle.straight.proofs.Elements.{MakesThen, makes_by, then_on, ends_then, end_is}
use Rattle.straight.proofs.Groups.{by_cut, by_other}

abbrev Going : Type 0
Going = Reading (Ended Notes)

abbrev sum : Notes → ℕ
sum n = n.sum

abbrev count : Notes → ℕ
count n = n.count

then_alike : (m : List ℕ) (t u : ℕ → Trace) → Alike t u → (r : Going) (l : List ℕ) (x : Going) (y : List ℕ) → MakesThen m t r l x y → MakesThen m u r l x y
then_alike m t u h (on s) l x y i =
    (i.0 ∙ ap (λ (d : Made). d.notes) (h s.at s.notes l), i.1, i.2 ∙ ap (λ (d : Made). d.places) (h s.at s.notes l))
then_alike m t u h (stop n q) l x y i = i

pub begin : (v : Version) (m : List ℕ) (n : ℕ) (r : Going) (l : List ℕ) → Fine m 0 r → Behind r (Room 0) → Onward v m n r l n r l
begin v m n r l f h = record { fine = f; room = h; same = refl; places = refl; long = refl }

-- and on from there
pub onto : {v : Version} {m : List ℕ} {n : ℕ} {r : Going} {k : List ℕ} {i : ℕ} {s : Going} {l : List ℕ} {j : ℕ} {t : Going} {q : List ℕ}
    → Onward v m n r k i s l → Onward v m i s l j t q → Onward v m n r k j t q
onto a b = record { fine = b.fine; room = b.room; same = a.same ∙ b.same; places = a.places ∙ b.places; long = b.long ∙ a.long }

item_fair : (v : Version) → law.fairly an_amount (in_item v) ≡ true
unfolding in_item
item_fair V02 = refl
item_fair V08 = refl

pub item_leaves : (v : Version) (m : List ℕ) (q : ℕ) (x : Notes) → Room 0 x → law.Leaves an_amount in_notes sum count adds 0 (item_body v m q) x
unfolding in_item
item_leaves V02 m q x r = law.leaves_group an_amount in_notes sum count adds m 0 many item_name (in_item V02) refl (law.leaves_trace an_amount in_notes sum count adds m (in_item V02) (item_fair V02) 0) q x r
item_leaves V08 m q x r = law.leaves_group an_amount in_notes sum count adds m 0 many item_name (in_item V08) refl (law.leaves_trace an_amount in_notes sum count adds m (in_item V08) (item_fair V08) 0) q x r

item_behind : (v : Version) (m : List ℕ) (q : ℕ) (x : Notes) → Room 0 x → (a : Going) → a ≡ reads (item_body v m q) x → Behind a (Room 0)
item_behind v m q x r (on z) e = law.ended_room an_amount in_notes sum count adds 0 (item_body v m q) x z (item_leaves v m q x r) (sym e)
item_behind v m q x r (stop n p) e = tt

module _ (v : Version) (m : List ℕ) (n : ℕ) (r₀ : Going) (l₀ : List ℕ) (left : ℕ) (s : Going) (l : List ℕ) (k : Onward v m n r₀ l₀ left s l) where
  abbrev Done : Going → List ℕ → Type 0
  Done x y = MakesThen m (more_of v m n) r₀ l₀ x y

  so : (x : Going) (y : List ℕ) → MakesThen m (more_of v m left) s l x y → Done x y
  so x y i = (i.0 ∙ sym k.same, i.1, i.2 ∙ sym k.places)

  -- an item that is refused ends it
  pub loop_refused : (j q : ℕ) → stop j q ≡ s → Done (stop j q) l
  loop_refused j q h = so (stop j q) l (rw (← h) (refl, rw (← h) at k.fine, refl))

  pub loop_end : left ≡ 0 → (x : Going) → x ≡ onward s (λ z. reads (end_of (end_tag bulk_name) m z.at) z.notes) → Fine m 0 x → Done x l
  loop_end h x e f =
      let i = then_alike m (end_of (end_tag bulk_name) m) (more_of v m 0) (λ p y j. ap (λ (u : Trace). made u y j) (sym (end_is m bulk_name p))) s l x l (ends_then m (end_tag bulk_name) s x l e f) in
      so x l (rw h i)

  module _ (u : Ended Notes) (e : on u ≡ s) (some : 0 < left) (g : Good m u) (q : ℕ) (place : q ≡ skipped m u.at) (within : q ≤ length m) (c : Look) (w : c ≡ look item_tag (drop q m)) where
    abbrev whole : ℕ → ℕ → Trace
    whole i z = and_then (item_body v m z) (more_of v m i)

    abbrev other : ℕ → Trace
    other = trace (end bulk_name) m

    turned : (i : ℕ) → left ≡ suc i → (p : ℕ) → more_of v m left p ≡ by_tag item_tag (whole i) other m p
    turned i h p = rw h refl

    by_turn : (i : ℕ) → left ≡ suc i → (x : Going) (y : List ℕ) → Makes m (by_tag item_tag (whole i) other m u.at) u.notes l x y → Done x y
    by_turn i h x y j =
        so x y (then_on m s (more_of v m left) k.fine l u e x y
        (makes_by 0 x (j.is ∙ ap (λ (t : Trace). reads t u.notes) (sym (turned i h u.at)), j.fine, j.places ∙ ap (λ (t : Trace). placed t u.notes l) (sym (turned i h u.at)))))

    pub loop_cut : c ≡ Cut → (x : Going) → x ≡ stop 3 (length m) → Done x l
    loop_cut h x i =
        by_turn (left - 1) (omega arith) x l (by_cut m u.at u.notes g item_tag q place within c w (whole (left - 1)) other l h x i)

    end-here : trace (end bulk_name) m q ≡ closed_by (exactly (end_tag bulk_name)) m q
    end-here =
        let z : skipped m q ≡ q = ap (skipped m) place ∙ (skip_twice m u.at ∙ sym place) in
        ap (closed bulk_name m) z ∙ sym (closed_by_lem m bulk_name (exactly (end_tag bulk_name)) q refl)

    pub loop_other : c ≡ Other → (b : Ended Notes) → b ≡ here q u.notes → (x : Going) → x ≡ reads (closed_by (exactly (end_tag bulk_name)) m b.at) b.notes → Fine m b.at x → Done x l
    loop_other h b d x i f =
        let i2 : x ≡ reads (closed_by (exactly (end_tag bulk_name)) m q) u.notes = i ∙ ap (λ (z : Ended Notes). reads (closed_by (exactly (end_tag bulk_name)) m z.at) z.notes) d in
        by_turn (left - 1) (omega arith) x l (by_other m u.at u.notes g item_tag q place within c w (whole (left - 1)) other l h x l
        (makes_by b.at x (i2 ∙ ap (λ (t : Trace). reads t u.notes) (sym end-here), f, sym (ap (λ (t : Trace). placed t u.notes l) end-here ∙ closed_placed m (exactly (end_tag bulk_name)) q u.notes l))))

    pub loop_next : c ≡ Whole → (b : Ended Notes) → b ≡ here q u.notes → (x : Going) (y : List ℕ) → Makes m (item_body v m b.at) b.notes l x y → length y ≡ length l
        → Onward v m n r₀ l₀ (left - 1) x y
    loop_next h b d x y i z =
        let j : Makes m (item_body v m q) u.notes l x y = rw d at i in
        let t : more_of v m left u.at ≡ whole (left - 1) q = turned (left - 1) (omega arith) u.at ∙ rw (← place, ← w, h) refl in
        record {
          fine = j.fine;
          room = item_behind v m q u.notes (rw (sym e) at k.room) x j.is;
          same =
              k.same ∙ (ap (λ (a : Going). onward a (λ o. reads (more_of v m left o.at) o.notes)) (sym e)
              ∙ (ap (λ (a : Trace). reads a u.notes) t ∙ (noted_then in_notes (item_body v m q) (more_of v m (left - 1)) u.notes
              ∙ ap (λ (a : Going). onward a (λ o. reads (more_of v m (left - 1) o.at) o.notes)) (sym j.is))));
          places =
              k.places ∙ (ap (λ (a : Going). or_else a (λ o. placed (more_of v m left o.at) o.notes l) l) (sym e)
              ∙ (ap (λ (a : Trace). placed a u.notes l) t ∙ (then_placed (item_body v m q) (more_of v m (left - 1)) u.notes l
              ∙ (ap (λ (a : Going). or_else a (λ o. placed (more_of v m (left - 1) o.at) o.notes (placed (item_body v m q) u.notes l)) (placed (item_body v m q) u.notes l)) (sym j.is)
              ∙ ap (λ (d : List ℕ). or_else x (λ o. placed (more_of v m (left - 1) o.at) o.notes d) d) (sym j.places)))));
          long = z ∙ k.long;
        }
