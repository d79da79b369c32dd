-- Records written one behind the other into an area, and what is answered.
use mathlib.Core.Path.{◌≡◌, refl, sym, ap, ◌∙◌}
use mathlib.Core.List.{List, [], ◌∷◌, ◌++◌, append-nil, append_assoc}
use Prim.Native.Nat.{ℕ, zero, suc, ◌+◌, ◌-◌, ◌*◌, ◌/◌, ◌≤◌, ◌<◌, min}
use native.Mathlib.Numerals.{add-one}
use native.Mathlib.Omega.{arith}
use borrow.Author.Tests.{lt-ltb, le-ltb}
use borrow.Rule.Slice.PartMut.{put_mid, mid_len, same_len_mid}
use lib.ListN.{length, take, drop, get_or, drop_of_length-le}
use lib.Seq.{drop-drop}
use Rattle.std.specs.Simd.{first_chunks}
use Rattle.text.proofs.Truths.{never}
use Rattle.reading.specs.Trace.{What}
use Rattle.reading.specs.Verdict.{Judged, accepted, refused}
use Rattle.reading.specs.Judged.{judged}
use Rattle.reading.specs.Items.{Item, the_header, the_items}
use Rattle.postings.specs.Record.{record_length}
use Rattle.judge.specs.Index.{survey_with}
use Rattle.judge.proofs.Index.{Indexed, short as few, roomy, indexed, in_short, in_room, survey_room}
use Rattle.judge.proofs.Walks.{verdict_surveyed}
use Rattle.records.specs.Indexed.{recorded_with}
use Rattle.postings.specs.Area.{as_lent, records_for, recorded}
use Rattle.postings.proofs.Long.{length_records}
use Rattle.engine.specs.declared.Several.{Several}
use Rattle.engine.specs.Several.{items_from, behind, row_length, rows_of, Tells}
use Rattle.engine.proofs.Rows.{front_long, put_next}
use Rattle.std.specs.Prelude.{Ok, Err}
use Rattle.answers.specs.declared.Refused.{Refused}
use Rattle.answers.specs.Refusals.{refusal_number}
use Rattle.judge.specs.declared.Survey.{Survey}
use Rattle.judge.specs.Verdict.{version_of}
use Rattle.judge.specs.Found.{denied}
use Rattle.judge.specs.Survey.{Surveyed, without, surveyed_as, survey}
use Rattle.records.specs.Engine.{record_of, records_of, Room}
use Rattle.records.proofs.Walk.{accepted_is, ready, Going, begins, none_done, all_done}
use Rattle.records.proofs.Further.{Further, further}

-- ---- the records of rows: so many stand in the area
module _ (m above : List ℕ) where
  records-next : (i : ℕ) (rows : List ℕ) → records_of m above (suc i) rows ≡ records_of m above i rows ++ record_of m (take row_length (drop (row_length * i) rows)) above
  records-next zero rows = append-nil (record_of m (take row_length rows) above)
  records-next (suc i) rows =
      let z : row_length + row_length * i ≡ row_length * suc i = omega arith in
      let e : drop (row_length * i) (drop row_length rows) ≡ drop (row_length * suc i) rows = drop-drop (row_length * i) row_length rows ∙ ap (λ (k : ℕ). drop k rows) z in
      let x = record_of m (take row_length rows) above in
      let y = records_of m above i (drop row_length rows) in
      ap (λ (l : List ℕ). x ++ l) (records-next i (drop row_length rows))
      ∙ (ap (λ (l : List ℕ). x ++ (y ++ record_of m (take row_length l) above)) e ∙ sym (append_assoc x y (record_of m (take row_length (drop (row_length * suc i) rows)) above)))

-- row i of those that lie flat
pub row_at : (k i : ℕ) (l : List ℕ) → i < k → get_or (first_chunks row_length k l) i [] ≡ take row_length (drop (row_length * i) l)
row_at zero i l h = never (omega arith)
row_at (suc k) zero l h = refl
row_at (suc k) (suc i) l h =
    let z : row_length + row_length * i ≡ row_length * suc i = omega arith in
    let e : drop (row_length * i) (drop row_length l) ≡ drop (row_length * suc i) l = drop-drop (row_length * i) row_length l ∙ ap (λ (j : ℕ). drop j l) z in
    row_at k i (drop row_length l) (omega arith) ∙ ap (λ (y : List ℕ). take row_length y) e

pub record Laying (m above rows : List ℕ) (n : ℕ) (area₀ : List ℕ) (i : ℕ) (area : List ℕ) : Type 0 where
  pub some : i ≤ n
  pub long : length area ≡ length area₀
  pub is : area ≡ records_of m above i rows ++ drop (record_length * i) area₀

pub lay_begins : (m above rows : List ℕ) (n : ℕ) (area₀ : List ℕ) → Laying m above rows n area₀ 0 area₀
lay_begins m above rows n area₀ = record { some = omega arith; long = refl; is = refl }

module _ {m above rows : List ℕ} {n : ℕ} {area₀ : List ℕ} (e : (row_length * n ≤ length rows) × (length area₀ ≡ record_length * n)) where
  module _ {i : ℕ} {area : List ℕ} (y : Laying m above rows n area₀ i area) where
    pub lay_ends : n ≤ i → area ≡ records_of m above n rows
    lay_ends h =
        let z : i ≡ n = omega (arith, y.some) in
        let g : length area₀ ≤ record_length * n = omega (arith, e.1) in
        y.is ∙ rw (z, drop_of_length-le area₀ g) (append-nil (records_of m above n rows))

    -- the next row's record
    pub lay_on : i < n → (t : List (List ℕ)) → t ≡ first_chunks row_length (length rows / row_length) rows → (x : List ℕ) → x ≡ record_of m (get_or t i []) above
        → length x ≡ length (take (record_length * i + record_length - record_length * i) (drop (record_length * i) area))
        → Laying m above rows n area₀ (i + 1) (put_mid (record_length * i) (record_length * i + record_length - record_length * i) area x)
    lay_on h t d x o l =
        let w = records_of m above i rows in
        let a = record_length * i in
        let z : a + record_length ≡ record_length * (i + 1) = omega arith in
        let f = front_long w area₀ area a y.is y.long (omega (arith, e.1)) in
        let g : i < length rows / row_length = omega (arith, e.0) in
        let u : get_or t i [] ≡ take row_length (drop (row_length * i) rows) =
        ap (λ (v : List (List ℕ)). get_or v i []) d ∙ row_at (length rows / row_length) i rows g in
        let j : x ≡ record_of m (take row_length (drop (row_length * i) rows)) above = o ∙ ap (λ (v : List ℕ). record_of m v above) u in
        let t' = drop (record_length * (i + 1)) area₀ in
        let k : w ++ x ≡ records_of m above (i + 1) rows =
        ap (λ (v : List ℕ). w ++ v) j ∙ (sym (records-next m above i rows) ∙ ap (λ (v : ℕ). records_of m above v rows) (sym (add-one i))) in
        let b : w ++ (x ++ t') ≡ records_of m above (i + 1) rows ++ t' = sym (append_assoc w x t') ∙ ap (λ (v : List ℕ). v ++ t') k in
        record {
          some = omega arith;
          long = same_len_mid a (a + record_length - a) area x l ∙ y.long;
          is = put_next w area₀ area a y.is f record_length x ∙ (ap (λ (v : ℕ). w ++ (x ++ drop v area₀)) z ∙ b);
        }

-- ---- the second walk: the records of the items that are done stand in the area
records_append : (h : List What) (a b : List Item) → records_for h (a ++ b) ≡ records_for h a ++ records_for h b
records_append h [] b = refl
records_append h (x ∷ a) b = rw (records_append h a b, append_assoc)

-- so many of those that are left are read in one call
pub record Called (left n : ℕ) : Type 0 where
  pub within : n ≤ left
  pub few : n ≤ 128
  pub some : 0 < n

pub one_call : (left n : ℕ) → n ≡ min left 128 → 0 < left → Called left n
one_call left n e h = record { within = omega arith; few = omega arith; some = omega arith }

pub record Filling (m : List ℕ) (count : ℕ) (area₀ : List ℕ) (i at : ℕ) (area : List ℕ) : Type 0 where
  pub going : Going m count i at
  pub long : length area ≡ length area₀
  pub is : area ≡ records_for (the_header m) going.done ++ drop (record_length * i) area₀

module _ {m : List ℕ} {count first : ℕ} {above area₀ : List ℕ} (r : Room m count first above area₀) where
  pub fill_begins : Filling m count area₀ 0 first area₀
  fill_begins = record { going = begins m count first above r.ready; long = refl; is = rw (none_done m count first above r.ready) }

  module _ {i at : ℕ} {area : List ℕ} (f : Filling m count area₀ i at area) where
    pub fill_ends : count ≤ i → area ≡ records_for (the_header m) (the_items m) ++ drop (record_length * count) area₀
    fill_ends h =
        let z : i ≡ count = omega (arith, f.going.some) in
        f.is ∙ rw (z, all_done m count first above r.ready i at f.going h)

    -- where the records of the next items begin and end
    module _ {n : ℕ} (h : i < count) (k : Called (count - i) n) where
      pub part_fits : record_length * i + record_length * n ≤ length area
      part_fits = omega (arith, r.room, f.long, k.within)

      pub part_long : length (take (record_length * i + record_length * n - record_length * i) (drop (record_length * i) area)) ≡ record_length * n
      part_long = mid_len (record_length * i) (record_length * i + record_length * n) area part_fits ∙ omega arith

      -- the items' rows as they were lent and as they were told, and what lies behind them
      module _ {lent told : List ℕ} {s : Several} (w : length lent ≡ row_length * n) (t : Tells (version_of m) m at lent s told) (rest : List ℕ) where
        abbrev its : Further m count above i at f.going n
        its = further m count first above r.ready n i at f.going (omega (arith, k.within))

        as_many : length lent / row_length ≡ n
        as_many = omega (arith, w)

        told_is_lem : records_of m above n (told ++ rest) ≡ records_for (the_header m) its.its
        told_is_lem =
            let l = items_from (version_of m) m n at in
            let d : told ≡ rows_of l ++ drop (row_length * length l) lent =
            t.told ∙ ap (λ (j : ℕ). rows_of (items_from (version_of m) m j at) ++ drop (row_length * length (items_from (version_of m) m j at)) lent) as_many in
            ap (λ (y : List ℕ). records_of m above n (y ++ rest)) d
            ∙ (ap (records_of m above n) (append_assoc (rows_of l) (drop (row_length * length l) lent) rest) ∙ its.records (drop (row_length * length l) lent ++ rest))

        place_is : s.at ≡ its.place
        place_is = t.place ∙ (ap (λ (j : ℕ). behind at (items_from (version_of m) m j at)) as_many ∙ its.place_is)

        pub fill_on : (x : List ℕ) → x ≡ records_of m above n (told ++ rest) → length x ≡ length (take (record_length * i + record_length * n - record_length * i) (drop (record_length * i) area))
            → Filling m count area₀ (i + n) s.at (put_mid (record_length * i) (record_length * i + record_length * n - record_length * i) area x)
        fill_on x e l =
            let a = record_length * i in
            let d = records_for (the_header m) f.going.done in
            let z : a + record_length * n ≡ record_length * its.last = omega (arith, its.last_is) in
            let g : length d ≡ a = length_records (the_header m) f.going.done ∙ rw f.going.many in
            let b = drop (record_length * its.last) area₀ in
            let o : d ++ (x ++ b) ≡ records_for (the_header m) its.going.done ++ b =
            ap (λ (y : List ℕ). d ++ (y ++ b)) (e ∙ told_is_lem)
            ∙ (sym (append_assoc d (records_for (the_header m) its.its) b)
            ∙ ap (λ (y : List ℕ). y ++ b) (sym (records_append (the_header m) f.going.done its.its) ∙ ap (records_for (the_header m)) (sym its.more))) in
            rw (its.last_is, place_is)
            (record {
              going = its.going;
              long = same_len_mid a (a + record_length * n - a) area x l ∙ f.long;
              is = put_next d area₀ area a f.is g (record_length * n) x ∙ (ap (λ (j : ℕ). d ++ (x ++ drop j area₀)) z ∙ o);
            })

-- ---- what is answered, and what the area then holds
module _ (m area : List ℕ) where
  abbrev pub Answered : Judged → List ℕ → Type 0
  Answered r a = (r ≡ (recorded m area).verdict) × (a ≡ (recorded m area).area)

  pub not_accepted : (r : Refused) → surveyed_as (Err r) ≡ survey m → Answered (refused (refusal_number r.why) r.at) area
  unfolding recorded
  not_accepted r e =
      let z : refused (refusal_number r.why) r.at ≡ judged m = verdict_surveyed m (surveyed_as (Err r)) e in
      rw (← z) (refl, refl)

  module _ (s : Survey) (e : surveyed_as (Ok s) ≡ survey m) where
    abbrev count : ℕ
    count = s.finding.accepted.count

    pub no_room : length area / record_length < count → Answered (refused 17 0) area
    unfolding recorded
    no_room h = rw (accepted_is m s e, lt-ltb (length area) (record_length * count) (omega arith)) (refl, refl)

    pub has_room : count ≤ length area / record_length → Room m count s.finding.first s.starts area
    has_room h = record { ready = ready m s e; room = omega arith }

    pub filled_up : count ≤ length area / record_length → (a : List ℕ) → a ≡ records_for (the_header m) (the_items m) ++ drop (record_length * count) area
        → Answered (accepted count s.finding.accepted.cents) a
    unfolding recorded
    filled_up h a g = rw (accepted_is m s e, le-ltb (length area) (record_length * count) (omega arith)) (refl, g)

-- ---- with an index
module _ (index m area : List ℕ) where
  abbrev pub AnsweredWith : Judged → List ℕ → Type 0
  AnsweredWith r a = (r ≡ (recorded_with index m area).verdict) × (a ≡ (recorded_with index m area).area)

  pub refused_with : (r : Refused) → surveyed_as (Err r) ≡ survey_with index m → AnsweredWith (refused (refusal_number r.why) r.at) area
  refused_with r e = go (indexed index)
    where
      go : Indexed index → AnsweredWith (refused (refusal_number r.why) r.at) area
      go (few h) =
          let d : refused (refusal_number r.why) r.at ≡ refused 25 0 = ap (λ (x : Surveyed). x.found.verdict) (e ∙ in_short index (without (denied 25 0)) (survey m) h) in
          rw (in_short index (as_lent 25 0 area) (recorded m area) h) (d, refl)
      go (roomy h) =
          rw (in_room index (as_lent 25 0 area) (recorded m area) h) (not_accepted m area r (e ∙ in_room index (without (denied 25 0)) (survey m) h))

  -- an accepted message had one with room
  pub answered_with : (s : Survey) → surveyed_as (Ok s) ≡ survey_with index m → (r : Judged) (a : List ℕ) → Answered m area r a → AnsweredWith r a
  answered_with s e r a h = rw (in_room index (as_lent 25 0 area) (recorded m area) (survey_room index m s e)) h
