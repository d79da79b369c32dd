-- The second walk over the items: the cents of those that are done stand in the four sums, by their type.
use mathlib.Core.Path.{◌≡◌, sym, ap, ◌∙◌}
use mathlib.Core.List.{List, [], ◌∷◌, ◌++◌}
use Prim.Native.Nat.{ℕ, ◌+◌, ◌≤◌, ◌<◌}
use native.Mathlib.Omega.{arith}
use Rattle.std.specs.Prelude.{Option, Some, None}
use Rattle.codes.specs.declared.Element.TheVariants.{SeqTp}
use Rattle.codes.specs.Listed.{codes_of, code_given}
use Rattle.profile.specs.declared.Field as field
use Rattle.reading.specs.Trace.{What}
use Rattle.reading.specs.Noted.{Reading, on, stop, Ended}
use Rattle.reading.specs.Items.{the_header}
use Rattle.postings.specs.Record.{value_for, cents_for}
use Rattle.items.specs.Places.{held_at}
use Rattle.items.specs.Sums.{most_sum}
use Rattle.items.proofs.Sums.{bulk_most}
use Rattle.bulks.proofs.Typed.{sequence}
use Rattle.notes.specs.declared.Notes.{Notes}
use Rattle.engine.specs.Engine.{item_at}
use Rattle.judge.specs.Verdict.{version_of}
use Rattle.records.specs.Engine.{start_of, own_or, Ready}
use Rattle.records.proofs.Values.{from_wherever, its_cents}
use Rattle.records.proofs.Walk.{Going, Next, sequence_noted, begins, none_done, all_done, never_stops, goes_on}
use Rattle.sums.specs.Sums.{each_type, sums_of, total}
use Rattle.sums.specs.Engine.{place_of, type_at, sum_at, added}
use Rattle.sums.proofs.Types.{one_more}
use Rattle.sums.proofs.Laws.{all_cents, all_append, at_most, one_of_all, all_cents_lem}

-- a sum at a place, or none, is at most all of them
at_of_all : (o : Option ℕ) (l : List ℕ) → sum_at o l ≤ total l
at_of_all (Some i) l = one_of_all l i
at_of_all None l = omega arith

pub record Adding (m : List ℕ) (count i at : ℕ) (sums : List ℕ) : Type 0 where
  pub going : Going m count i at
  pub is : sums ≡ each_type (codes_of SeqTp) (the_header m) going.done

module _ (m : List ℕ) (count first : ℕ) (above : List ℕ) (r : Ready m count first above) where
  pub add_begins : Adding m count 0 first (0 ∷ 0 ∷ 0 ∷ 0 ∷ [])
  add_begins = record { going = begins m count first above r; is = rw (none_done m count first above r) }

  module _ (i at : ℕ) (sums : List ℕ) (f : Adding m count i at sums) where
    pub add_ends : count ≤ i → sums ≡ sums_of m
    unfolding sums_of
    add_ends h = f.is ∙ ap (each_type (codes_of SeqTp) (the_header m)) (sym (all_done m count first above r i at f.going h))

    module _ (h : i < count) (y : Reading (Ended Notes)) (e : y ≡ item_at (version_of m) m at) where
      pub add_stops : (n q : ℕ) → y ≡ stop n q → {A : Type 0} → A
      add_stops = never_stops m count first above r i at f.going h y e

      module _ (s : Ended Notes) (g : y ≡ on s) (p : ℕ) (k : Option ℕ) (d : p ≡ own_or (start_of above field.TheVariants.SeqTp) (start_of s.notes.starts field.TheVariants.SeqTp)) (w : k ≡ type_at m p) where
        t : Next m count i at f.going s
        t = goes_on m count first above r i at f.going h y e s g

        abbrev ws : List What
        ws = the_header m ++ t.it.holds

        -- its type's place, and its cents
        type_is : k ≡ place_of (code_given SeqTp (value_for ws field.TheVariants.SeqTp))
        unfolding type_at
        type_is =
            w
            ∙ ap (λ (v : List ℕ). place_of (code_given SeqTp v))
            (ap (held_at m) d
            ∙ from_wherever m count r.cents r.accepted (version_of m) at t.it t.stands f.going.done t.after t.is s.notes above t.summed field.TheVariants.SeqTp sequence
            (sequence_noted m count first above r))

        cents-are : s.notes.cents ≡ cents_for ws
        cents-are = its_cents m count r.cents r.accepted (version_of m) at t.it t.stands f.going.done t.after t.is s.notes above t.summed

        pub add_fits : sum_at k sums + s.notes.cents ≤ most_sum
        add_fits =
            omega (
              arith,
              at_of_all k sums,
              ap total f.is,
              at_most (the_header m) f.going.done,
              cents-are,
              all_append (the_header m) f.going.done (t.it ∷ t.after),
              ap (all_cents (the_header m)) t.is,
              all_cents_lem m count r.cents r.accepted,
              bulk_most m count r.cents r.accepted,
            )

        pub add_on : (x : List ℕ) → x ≡ added k s.notes.cents sums → Adding m count (i + 1) s.at x
        add_on x z =
            let j = place_of (code_given SeqTp (value_for ws field.TheVariants.SeqTp)) in
            let a : added k s.notes.cents sums ≡ added j (cents_for ws) sums = ap (λ (u : Option ℕ). added u s.notes.cents sums) type_is ∙ ap (λ (u : ℕ). added j u sums) cents-are in
            let b : added j (cents_for ws) sums ≡ each_type (codes_of SeqTp) (the_header m) (f.going.done ++ (t.it ∷ [])) =
            ap (added j (cents_for ws)) f.is ∙ one_more (the_header m) f.going.done t.it in
            record { going = t.going; is = z ∙ (a ∙ (b ∙ ap (each_type (codes_of SeqTp) (the_header m)) (sym t.more))) }
