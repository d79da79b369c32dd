-- What one step of an engine finds, over plain lists, tests and notes; and that a good state stays good.
use mathlib.Core.Path.{◌≡◌, refl, sym, ap, ◌∙◌}
use mathlib.Core.Bool.{Bool, true, false}
use mathlib.Core.List.{List}
use Prim.Native.Nat.{ℕ, ◌+◌, ◌-◌, ◌≤◌, ◌<◌}
use Prim.Native.String.{String}
use native.Mathlib.Omega.{arith}
use borrow.Author.Tests.{lt-ltb, le-ltb}
use lib.ListN.{length, take, drop, length-drop, length-take}
use Rattle.text.specs.Truth.{lead}
use Rattle.text.proofs.Scan.{rest_of, lead_le}
use Rattle.tags.specs.declared.Look.{Look}
use Rattle.tags.specs.declared.Look.TheVariants.{Whole, Cut, Other}
use Rattle.tags.specs.Tags.{white, skipped, look, on_look, exactly, end_tag}
use Rattle.tags.specs.Values.{in_value, value_at}
use Rattle.tags.proofs.Looks.{look_fits, exactly_length}
use Rattle.profile.specs.declared.Kind.{Kind}
use Rattle.profile.specs.declared.Field.{Field}
use Rattle.reading.specs.Noted.{Reading, on, stop, onward, Ended}
use Rattle.reading.proofs.Flat.{never}
use Rattle.items.specs.Sums.{most_sum, of_amount}
use Rattle.notes.specs.declared.Notes.{Notes}
use Rattle.notes.specs.Notes.{value_noted, added_up}
use Rattle.notes.specs.Steps.{staying, reads, Good, Room, Fine}
use Rattle.notes.proofs.Notings.{here}
use Rattle.notes.proofs.Stays.{later, good_at, added_good, value_fine}
use Rattle.notes.proofs.Room.{value_within}
use Rattle.engine.specs.Engine.{closed_by, valued_by, filed_by, or_else, placed}
use Rattle.engine.proofs.Placed.{valued_placed}
use Rattle.reading.specs.Trace.{closed}

abbrev Found : Type 0
Found = Reading (Ended Notes)

-- what is shown of a step: it is the reading, and fine from a place on
pub passed_on : (m : List ℕ) (p : ℕ) (x r s : Found) → x ≡ r → r ≡ s → Fine m p r → (x ≡ s) × Fine m p x
passed_on m p x r s e f h = (e ∙ f, rw e h)

-- a reading that goes on, or stops, and is fine
pub fine_on : (m : List ℕ) (p : ℕ) (r : Found) (s : Ended Notes) → on s ≡ r → Fine m p r → Good m s × (p ≤ s.at)
fine_on m p r s e f = rw (sym e) at f

pub fine_stop : (m : List ℕ) (p : ℕ) (r : Found) (n q : ℕ) → stop n q ≡ r → Fine m p r → q ≤ length m
fine_stop m p r n q e f = rw (sym e) at f

-- whether it is one that stops, as the code asks of a step by `is_err`
abbrev pub halts : Found → Bool
halts (on s) = false
halts (stop n q) = true

-- ---- white space
pub spaces_fit : (m : List ℕ) (p n : ℕ) → p ≤ length m → n ≡ lead white (take (length m - p) (drop p m)) → p + n ≤ length m
spaces_fit m p n h e = omega (arith, lead_le white (take (length m - p) (drop p m)), length-take (length m - p) (drop p m), length-drop p m)

pub skips : (m : List ℕ) (s : Ended Notes) (n : ℕ) (r : Ended Notes) → Good m s → n ≡ lead white (take (length m - s.at) (drop s.at m)) → r ≡ here (s.at + n) s.notes
    → (r ≡ here (skipped m s.at) s.notes) × Good m r × (s.at ≤ r.at)
skips m s n r g e f =
    let h : n ≡ lead white (drop s.at m) = e ∙ ap (lead white) (rest_of s.at m) in
    (f ∙ ap (λ (k : ℕ). here (s.at + k) s.notes) h, rw f (good_at m s (s.at + n) g (spaces_fit m s.at n g.within e)), rw f (omega arith))

-- ---- an end tag
module _ (m : List ℕ) (p : ℕ) (n : Notes) (t : List (ℕ → Bool)) (g : Good m (here p n)) (l : Look) (e : l ≡ look t (take (length m - p) (drop p m))) where
  looked : look t (drop p m) ≡ l
  looked = ap (look t) (sym (rest_of p m)) ∙ sym e

  -- what is shown of `close`
  abbrev pub Closes : Found → Type 0
  Closes x = (x ≡ reads (closed_by t m p) n) × Fine m p x

  pub close_fits : l ≡ Whole → (k : ℕ) → k ≡ length t → p + k ≤ length m
  close_fits h k f = omega (arith, look_fits t (drop p m) (looked ∙ h), length-drop p m, g.within)

  pub closed_whole : l ≡ Whole → (k : ℕ) → k ≡ length t → (x : Found) → x ≡ on (here (p + k) n) → Closes x
  unfolding closed_by
  closed_whole h k f x w =
      passed_on m p x (on (here (p + k) n)) (reads (closed_by t m p) n) w (rw (looked, h, f))
      (good_at m (here p n) (p + k) g (close_fits h k f), omega arith)

  pub closed_cut : l ≡ Cut → (x : Found) → x ≡ stop 3 (length m) → Closes x
  unfolding closed_by
  closed_cut h x w = passed_on m p x (stop 3 (length m)) (reads (closed_by t m p) n) w (rw (looked, h)) (omega arith)

  pub closed_other : l ≡ Other → (x : Found) → x ≡ stop 4 p → Closes x
  unfolding closed_by
  closed_other h x w = passed_on m p x (stop 4 p) (reads (closed_by t m p) n) w (rw (looked, h)) g.within

-- an end tag, by its tests
pub closed_by_lem : (m : List ℕ) (n : String) (t : List (ℕ → Bool)) (p : ℕ) → t ≡ exactly (end_tag n) → closed_by t m p ≡ closed n m p
unfolding closed_by closed
closed_by_lem m n t p e = rw (e, exactly_length (end_tag n))

-- ---- a value
pub value_fits : (m : List ℕ) (p n : ℕ) → p ≤ length m → n ≡ lead in_value (take (length m - p) (drop p m)) → p + n ≤ length m
value_fits m p n h e = omega (arith, lead_le in_value (take (length m - p) (drop p m)), length-take (length m - p) (drop p m), length-drop p m)

module _ (m : List ℕ) (p : ℕ) (ns : Notes) (g : Good m (here p ns)) (t : List (ℕ → Bool)) (k : Kind) (f : Field) (n : ℕ) (e : n ≡ lead in_value (take (length m - p) (drop p m))) where
  found : n ≡ lead in_value (drop p m)
  found = e ∙ ap (lead in_value) (rest_of p m)

  -- the value as it is lent
  abbrev lent : List ℕ
  lent = take ((p + n) - p) (drop p m)

  lent_is : lent ≡ value_at m p
  lent_is =
      let z : (p + n) - p ≡ lead in_value (drop p m) = omega (arith, found) in
      ap (λ (i : ℕ). take i (drop p m)) z

  -- what is shown of `value`
  abbrev pub Values : Found → Type 0
  Values x = (x ≡ reads (valued_by t k f m p) ns) × Fine m p x

  -- and of where TxIds begin
  pub none_placed : p + n ≡ length m → (l : List ℕ) → l ≡ placed (valued_by t k f m p) ns l
  none_placed h l = sym (valued_placed m t k f p ns l ∙ rw (← found, h, le-ltb (length m) (length m) (omega arith)))

  pub value_none : p + n ≡ length m → (x : Found) → x ≡ stop 3 (p + n) → Values x
  unfolding valued_by
  value_none h x w =
      passed_on m p x (stop 3 (p + n)) (reads (valued_by t k f m p) ns) w
      (rw (← found, h, le-ltb (length m) (length m) (omega arith))) (omega arith)

  module _ (h : p + n ≡ length m → ⊥) where
    abbrev Noted : Reading Notes
    Noted = value_noted k f lent p ns

    value_there : p + n < length m
    value_there = omega (arith, value_fits m p n g.within e)

    added-on : (q : ℕ) (x : Reading Notes) → onward (onward x (λ u. on (added_up k u))) (reads (closed_by t m q)) ≡ onward (staying p x) (λ u. reads (closed_by t m q) (added_up k u.notes))
    added-on q (on u) = refl
    added-on q (stop i y) = refl

    goes_on : (r : Found) → r ≡ staying p Noted → onward r (λ u. reads (closed_by t m (p + n)) (added_up k u.notes)) ≡ reads (valued_by t k f m p) ns
    unfolding valued_by
    goes_on r w = rw (w, lent_is, ← found, lt-ltb (p + n) (length m) value_there) (sym (added-on (p + n) (value_noted k f (take n (drop p m)) p ns)))

    noted-placed : (l : List ℕ) (x : Found) → x ≡ staying p Noted → or_else x (λ u. filed_by f p l) l ≡ placed (valued_by t k f m p) ns l
    noted-placed l x w =
        rw w (sym (valued_placed m t k f p ns l ∙ rw (← found, lt-ltb (p + n) (length m) value_there) (ap (λ (v : List ℕ). or_else (value_noted k f v p ns) (λ u. filed_by f p l) l) (sym lent-here) ∙ at_place Noted)))
      where
        lent-here : lent ≡ take n (drop p m)
        lent-here = lent_is ∙ ap (λ (i : ℕ). take i (drop p m)) (sym found)

        at_place : (x : Reading Notes) → or_else x (λ u. filed_by f p l) l ≡ or_else (staying p x) (λ u. filed_by f p l) l
        at_place (on u) = refl
        at_place (stop i q) = refl

    pub stops_placed : (c q : ℕ) → stop c q ≡ staying p Noted → (l : List ℕ) → l ≡ placed (valued_by t k f m p) ns l
    stops_placed c q w l = noted-placed l (stop c q) w

    pub value_placed : (s : Ended Notes) → on s ≡ staying p Noted → (l : List ℕ) → filed_by f p l ≡ placed (valued_by t k f m p) ns l
    value_placed s w l = noted-placed l (on s) w

    pub value_stops : (c q : ℕ) → stop c q ≡ staying p Noted → (x : Found) → x ≡ stop c q → Values x
    value_stops c q w x z = passed_on m p x (stop c q) (reads (valued_by t k f m p) ns) z (goes_on (stop c q) w) (fine_stop m p (staying p Noted) c q w (value_fine m p ns g k f lent))

    module _ (s : Ended Notes) (w : on s ≡ staying p Noted) where
      pub value_sum : Room (of_amount k) ns → (added_up k s.notes).sum ≤ most_sum
      value_sum r = value_within k f lent p ns s.notes g.counted r (go Noted w)
        where
          go : (x : Reading Notes) → on s ≡ staying p x → x ≡ on s.notes
          go (on u) q = let d : s ≡ here p u = cc in ap (λ (t : Ended Notes). on t.notes) (sym d)
          go (stop i y) q = never (cc)

      -- a is the state with the sum, and u the one behind the value
      pub value_good : (a : Ended Notes) → a ≡ here s.at (added_up k s.notes) → Good m (here (p + n) a.notes)
      value_good a q =
          rw q (added_good m k (p + n) s.notes (good_at m s (p + n) (fine_on m p (staying p Noted) s w (value_fine m p ns g k f lent)).0 (value_fits m p n g.within e)))

      pub value_closes : (a : Ended Notes) → a ≡ here s.at (added_up k s.notes) → (u : Ended Notes) → u ≡ here (p + n) a.notes
          → (x : Found) → x ≡ reads (closed_by t m u.at) u.notes → Fine m u.at x → Values x
      value_closes a q u b x z y = (z ∙ (rw (b, q) (goes_on (on s) w)), later m p (p + n) (omega arith) x (rw b at y))

-- ---- what the code asks of how a tag lies: it goes on where that lies whole
module _ (n p : ℕ) (s : Ended Notes) where
  abbrev Asked : Look → Found
  Asked l = on_look l (on s) (stop 3 n) (stop 4 p)

  pub lies_whole : (l : Look) → on s ≡ Asked l → l ≡ Whole
  lies_whole Whole e = refl
  lies_whole Cut e = never (cc)
  lies_whole Other e = never (cc)

  -- what is refused: to show P of it, it is shown of either
  pub lies_not : (P : Found → Type 0) (l : Look) (i q : ℕ) → stop i q ≡ Asked l → (l ≡ Cut → P (stop 3 n)) → (l ≡ Other → P (stop 4 p)) → P (stop i q)
  lies_not P Whole i q e f g = never (cc)
  lies_not P Cut i q e f g = rw e (f refl)
  lies_not P Other i q e f g = rw e (g refl)
