-- One call carried out on the code's run, or refused.
use mathlib.Core.Path.{◌≡◌, refl, sym, ap, ◌∙◌}
use mathlib.Core.Bool.{true}
use mathlib.Core.List.{List, [], ◌∷◌, ◌++◌}
use Prim.Native.Nat.{ℕ, zero, suc, ◌+◌, ◌-◌, ◌≤◌, ◌<◌}
use native.Mathlib.Numerals.{add-one}
use native.Mathlib.Omega.{arith}
use lib.ListN.{length, take, drop, set, length-take, length-set}
use lib.Seq.{take_at, length-take-le}
use Rattle.std.proofs.Common.{Some, None, Result, Ok, Err, OnErr}
use Rattle.std.specs.List.{copy_within}
use Rattle.text.proofs.Truths.{never}
use Rattle.answers.specs.declared.Refused.{Refused}
use Rattle.answers.specs.Refusals.{refusal_number}
use Rattle.sums.specs.declared.Lot.{Lot}
use Rattle.book.specs.declared.Entry.{Entry}
use Rattle.book.specs.declared.Numbers.{Numbers}
use Rattle.book.specs.Book.{Key, most_open, is_open, first_at}
use Rattle.book.specs.Calls.{done, refusal, enter, withdraw}
use Rattle.book.specs.Stored.{Stored, Carried, kept}
use Rattle.book.specs.Code.{in_range, lent, leaves, place_in, left_out}
use Rattle.book.proofs.Lists.{found, closed_up}
use Rattle.play.specs.declared.Run.{Run}
use Rattle.play.specs.Play.{on, refuses, carried_on}
use Rattle.play.specs.Code.{run_as, Light, AllLight, Sound}
use Rattle.play.proofs.Calls.{Entering, goes_in, stays_out, entering_is, Leaving, goes_out, stays_in, leaving_is}

-- what lies past the end of a list of lots
abbrev pub none : Lot
none = record { service = 0; sums = [] }

-- ---- lists
take_put : {A : Type 0} (l : List A) (i : ℕ) (a : A) → i < length l → take (i + 1) (set l i a) ≡ take i l ++ (a ∷ [])
take_put {A = A} l i a h = rw (add-one i) (go l i h)
  where
    go : (l : List A) (i : ℕ) → i < length l → take (suc i) (set l i a) ≡ take i l ++ (a ∷ [])
    go [] i h = never (omega arith)
    go (x ∷ l) zero h = refl
    go (x ∷ l) (suc i) h = ap (λ (m : List A). x ∷ m) (go l i (omega arith))

length_out : {A : Type 0} (i : ℕ) (l : List A) → i < length l → length (left_out i l) + 1 ≡ length l
length_out i [] h = never (omega arith)
length_out zero (x ∷ l) h = omega arith
length_out (suc i) (x ∷ l) h = omega (arith, length_out i l (omega arith))

-- what stands at a place goes, and the later ones of the first n move down
module _ {A : Type 0} (i n : ℕ) (l : List A) (h : i < n) (g : n ≤ length l) where
  take_out : take (n - 1) (copy_within l (i + 1) n i) ≡ left_out i (take n l)
  take_out =
      let k : length (take n l) ≡ n = length-take-le n l g in
      rw (closed_up i n l h g)
      (take_at (left_out i (take n l)) (drop (n - 1) l) (n - 1) (omega (arith, length_out i (take n l) (omega arith))))

light_more : (l : List Lot) (x : Lot) → AllLight l → Light x → AllLight (l ++ (x ∷ []))
light_more [] x h g = (g, tt)
light_more (y ∷ l) x h g = (h.0, light_more l x h.1 g)

light_less : (i : ℕ) (l : List Lot) → AllLight l → AllLight (left_out i l)
light_less i [] h = tt
light_less zero (x ∷ l) h = h.1
light_less (suc i) (x ∷ l) h = (h.0, light_less i l h.1)

-- a refusal of which something is said
pub on_err : {T E P : Type 0} (r : Result T E) → P → OnErr r P
on_err (Ok x) p = tt
on_err (Err x) p = p

-- ---- a run's book of the entries l, and what a call tells and leaves of it
module _ (l : List Entry) (run : Run) (l' : List Entry) (n' : Numbers) (r : Result ℕ Refused) where
  same_told : (q : Refused) (x : Carried) → r ≡ Err q → leaves r l' n' ≡ x → x.told ≡ refusal (refusal_number q.why) q.at
  same_told q x e is = sym (ap (λ (c : Carried). c.told) is) ∙ rw e refl

  held : (c : ℕ) (x : Carried) → r ≡ Ok c → leaves r l' n' ≡ x → x.told ≡ done c
  held c x e is = sym (ap (λ (c : Carried). c.told) is) ∙ rw e refl

  opened_is : (x : Carried) → leaves r l' n' ≡ x → n'.opened ≡ x.stored.book.number
  opened_is x is = ap (λ (c : Carried). c.stored.book.number) is

  stored_is : (x : Carried) → leaves r l' n' ≡ x → lent l' n' ≡ x.stored
  stored_is x is = ap (λ (c : Carried). c.stored) is

  module _ (sound : Sound run) where
    -- ---- an entry
    module _ (e : Entry) (is : leaves r l' n' ≡ kept (enter (in_range e)) (lent l run.numbers)) where
      abbrev entering : Carried
      entering = kept (enter (in_range e)) (lent l run.numbers)

      pub out_kept : (q : Refused) → r ≡ Err q → l' ≡ l
      out_kept q f = ap (λ (s : Stored). s.book.entries) (go entering (entering_is e (lent l run.numbers)) is)
        where
          go : (x : Carried) → Entering e (lent l run.numbers) x → leaves r l' n' ≡ x → lent l' n' ≡ lent l run.numbers
          go x (goes_in h) w = never (cc (same_told q x f w))
          go x (stays_out m p) w = stored_is x w

      pub out_step : (q : Refused) → r ≡ Err q → (lots : List Lot) (t i : ℕ) → refuses (refusal_number q.why) ≡ carried_on entering lots t i
      out_step q f lots t i = rw (same_told q entering f is)

      module _ (c : ℕ) (f : r ≡ Ok c) where
        pub room_in : run.numbers.opened < most_open
        room_in = go entering (entering_is e (lent l run.numbers)) is
          where
            go : (x : Carried) → Entering e (lent l run.numbers) x → leaves r l' n' ≡ x → run.numbers.opened < most_open
            go x (goes_in h) w = h
            go x (stays_out m p) w = never (cc (held c x f w))

        one_more : n'.opened ≡ run.numbers.opened + 1
        one_more = go entering (entering_is e (lent l run.numbers)) is
          where
            go : (x : Carried) → Entering e (lent l run.numbers) x → leaves r l' n' ≡ x → n'.opened ≡ run.numbers.opened + 1
            go x (goes_in h) w = opened_is x w
            go x (stays_out m p) w = never (cc (held c x f w))

        module _ (lot : Lot) (t i : ℕ) where
          abbrev next : Run
          next = record { numbers = n'; lots = set run.lots run.numbers.opened lot; taken = t; last = i }

          lots-are : take n'.opened (set run.lots run.numbers.opened lot) ≡ take run.numbers.opened run.lots ++ (lot ∷ [])
          lots-are = rw one_more (take_put run.lots run.numbers.opened lot (omega (arith, room_in, sound.long)))

          pub in_step : on (run_as l' next) ≡ carried_on entering (take run.numbers.opened run.lots ++ (lot ∷ [])) t i
          in_step = rw (held c entering f is, ← stored_is entering is, lots-are) refl

          pub in_sound : Light lot → Sound next
          in_sound light =
              record {
                few = (let h : n'.opened ≤ most_open = omega (arith, one_more, room_in) in h);
                long = simp length-set sound.long;
                light = rw lots-are (light_more (take run.numbers.opened run.lots) lot sound.light light);
              }

    -- ---- a withdrawal
    module _ (k : Key) (is : leaves r l' n' ≡ kept (withdraw k) (lent l run.numbers)) where
      abbrev leaving : Carried
      leaving = kept (withdraw k) (lent l run.numbers)

      pub stay_kept : (q : Refused) → r ≡ Err q → l' ≡ l
      stay_kept q f = ap (λ (s : Stored). s.book.entries) (go leaving (leaving_is k (lent l run.numbers)) is)
        where
          go : (x : Carried) → Leaving k (lent l run.numbers) x → leaves r l' n' ≡ x → lent l' n' ≡ lent l run.numbers
          go x (goes_out h g) w = never (cc (same_told q x f w))
          go x (stays_in m p) w = stored_is x w

      pub stay_step : (q : Refused) → r ≡ Err q → (lots : List Lot) (t i : ℕ) → refuses (refusal_number q.why) ≡ carried_on leaving lots t i
      stay_step q f lots t i = rw (same_told q leaving f is)

      module _ (c : ℕ) (f : r ≡ Ok c) where
        was_open : is_open k (take run.numbers.opened l) ≡ true
        was_open = go leaving (leaving_is k (lent l run.numbers)) is
          where
            go : (x : Carried) → Leaving k (lent l run.numbers) x → leaves r l' n' ≡ x → is_open k (take run.numbers.opened l) ≡ true
            go x (goes_out h g) w = g
            go x (stays_in m p) w = never (cc (held c x f w))

        one_less : n'.opened ≡ run.numbers.opened - 1
        one_less = go leaving (leaving_is k (lent l run.numbers)) is
          where
            go : (x : Carried) → Leaving k (lent l run.numbers) x → leaves r l' n' ≡ x → n'.opened ≡ run.numbers.opened - 1
            go x (goes_out h g) w = opened_is x w
            go x (stays_in m p) w = never (cc (held c x f w))

        -- the search that found nothing
        pub no_none : place_in k (take run.numbers.opened l) ≡ None → ⊥
        no_none e = never (cc (rw was_open at e))

        module _ (i : ℕ) (e : place_in k (take run.numbers.opened l) ≡ Some i) where
          at_first : (i ≡ first_at k (take run.numbers.opened l)) × (i < run.numbers.opened)
          at_first =
              let g = found k (take run.numbers.opened l) i e in
              (g.1, omega (arith, g.2, length-take run.numbers.opened l))

          pub below : i < run.numbers.opened
          below = at_first.1

          module _ (t w : ℕ) (lots : List Lot) (are : lots ≡ copy_within run.lots (i + 1) run.numbers.opened i) where
            abbrev later : Run
            later = record { numbers = n'; lots = lots; taken = t; last = w }

            left : take n'.opened lots ≡ left_out (first_at k (take run.numbers.opened l)) (take run.numbers.opened run.lots)
            left = rw (one_less, are, ← at_first.0) (take_out i run.numbers.opened run.lots below (omega (arith, sound.few, sound.long)))

            pub off_step : on (run_as l' later) ≡ carried_on leaving (left_out (first_at k (take run.numbers.opened l)) (take run.numbers.opened run.lots)) t w
            off_step = rw (held c leaving f is, ← stored_is leaving is, left) refl

            pub off_sound : length lots ≡ length run.lots → Sound later
            off_sound h =
                record {
                  few = (let h : n'.opened ≤ most_open = omega (arith, one_less, sound.few) in h);
                  long = h ∙ sound.long;
                  light = rw left (light_less (first_at k (take run.numbers.opened l)) (take run.numbers.opened run.lots) sound.light);
                }
