-- So many items further on in the second walk: none of them stops it, and the records of their rows are those of the items.
use mathlib.Core.Path.{◌≡◌, refl, sym, ap, ◌∙◌}
use mathlib.Core.List.{List, [], ◌∷◌, ◌++◌, append-nil, append_assoc}
use Prim.Native.Nat.{ℕ, zero, suc, ◌+◌, ◌≤◌}
use native.Mathlib.Omega.{arith}
use lib.ListN.{length, drop, length-append}
use lib.Seq.{take_at, drop_at}
use Rattle.reading.specs.Noted.{Reading, on, stop, Ended}
use Rattle.reading.specs.Items.{Item, the_header}
use Rattle.postings.specs.Record.{record_for}
use Rattle.postings.specs.Area.{records_for}
use Rattle.notes.specs.declared.Notes.{Notes}
use Rattle.engine.specs.Engine.{item_at}
use Rattle.engine.specs.Several.{items_from, behind, row_length, row_of, rows_of}
use Rattle.judge.specs.Verdict.{version_of}
use Rattle.records.specs.Engine.{record_of, records_of, Ready}
use Rattle.records.proofs.Values.{record_is}
use Rattle.records.proofs.Walk.{Going, Next, sequence_noted, instrument_noted, never_stops, goes_on}

pub record Further (m : List ℕ) (count : ℕ) (above : List ℕ) (i at : ℕ) (g : Going m count i at) (n : ℕ) : Type 0 where
  pub last : ℕ
  pub place : ℕ
  pub last_is : i + n ≡ last
  pub place_is : behind at (items_from (version_of m) m n at) ≡ place
  pub going : Going m count last place
  pub its : List Item
  pub more : going.done ≡ g.done ++ its
  pub many : length (items_from (version_of m) m n at) ≡ n
  pub records : (t : List ℕ) → records_of m above n (rows_of (items_from (version_of m) m n at) ++ t) ≡ records_for (the_header m) its

module _ (m : List ℕ) (count first : ℕ) (above : List ℕ) (r : Ready m count first above) where
  none_more : (i at : ℕ) (g : Going m count i at) → Further m count above i at g 0
  none_more i at g = record {
    last = i;
    place = at;
    last_is = omega arith;
    place_is = refl;
    going = g;
    its = [];
    more = sym (append-nil g.done);
    many = refl;
    records = λ t. refl;
  }

  -- the first row of several
  first_row : (n : ℕ) (row y : List ℕ) → length row ≡ row_length → records_of m above (suc n) (row ++ y) ≡ record_of m row above ++ records_of m above n y
  first_row n row y l =
      ap (λ (z : List ℕ). record_of m z above ++ records_of m above n (drop row_length (row ++ y))) (take_at row y row_length l)
      ∙ ap (λ (z : List ℕ). record_of m row above ++ records_of m above n z) (drop_at row y row_length l)

  module _ (n i at : ℕ) (g : Going m count i at) (s : Ended Notes) (e : on s ≡ item_at (version_of m) m at) (t : Next m count i at g s) where
    row_long : length (row_of s.notes) ≡ row_length
    row_long = length-append s.notes.starts (s.notes.cents ∷ []) ∙ omega (arith, t.summed.long)

    its-record : record_of m (row_of s.notes) above ≡ record_for (the_header m ++ t.it.holds)
    its-record =
        record_is m count r.cents r.accepted (version_of m) at t.it t.stands g.done t.after t.is s.notes above t.summed
        (sequence_noted m count first above r) (instrument_noted m count first above r)

    one_more : Further m count above (i + 1) s.at t.going n → Further m count above i at g (suc n)
    one_more f =
        let l = items_from (version_of m) m n s.at in
        let z : items_from (version_of m) m (suc n) at ≡ s ∷ l = rw (← e) in
        let h = the_header m in
        let row = row_of s.notes in
        record {
          last = f.last;
          place = f.place;
          last_is = omega (arith, f.last_is);
          place_is = ap (behind at) z ∙ f.place_is;
          going = f.going;
          its = t.it ∷ f.its;
          more = f.more ∙ (rw t.more (append_assoc g.done (t.it ∷ []) f.its));
          many = ap length z ∙ ap suc f.many;
          records =
              λ x. ap (λ (k : List (Ended Notes)). records_of m above (suc n) (rows_of k ++ x)) z
              ∙ (ap (records_of m above (suc n)) (append_assoc row (rows_of l) x)
              ∙ (first_row n row (rows_of l ++ x) row_long
              ∙ (ap (λ (k : List ℕ). k ++ records_of m above n (rows_of l ++ x)) its-record
              ∙ ap (λ (k : List ℕ). record_for (h ++ t.it.holds) ++ k) (f.records x))));
        }

  pub further : (n i at : ℕ) (g : Going m count i at) → i + n ≤ count → Further m count above i at g n
  further zero i at g h = none_more i at g
  further (suc n) i at g h = go (item_at (version_of m) m at) refl (λ s t. further n (i + 1) s.at t.going (omega arith))
    where
      go : (y : Reading (Ended Notes)) → y ≡ item_at (version_of m) m at
          → ((s : Ended Notes) (t : Next m count i at g s) → Further m count above (i + 1) s.at t.going n) → Further m count above i at g (suc n)
      go (on s) e rest =
          let t = goes_on m count first above r i at g (omega arith) (on s) e s refl in
          one_more n i at g s e t (rest s t)
      go (stop k q) e rest = never_stops m count first above r i at g (omega arith) (stop k q) e k q refl
