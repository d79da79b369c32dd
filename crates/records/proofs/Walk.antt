-- The second walk over the items of an accepted message: so many are done, and the others stand from here on.
use mathlib.Core.Path.{◌≡◌, refl, sym, ap, ◌∙◌}
use mathlib.Core.List.{List, [], ◌∷◌, ◌++◌, append-nil, append_assoc}
use Prim.Native.Nat.{ℕ, ◌+◌, ◌≤◌, ◌<◌}
use native.Mathlib.Omega.{arith}
use lib.ListN.{length, length-append}
use Rattle.profile.specs.declared.Field.{Field}
use Rattle.profile.specs.declared.Field.TheVariants.{LclInstrm, SeqTp}
use Rattle.profile.specs.Limits.{most_bytes}
use Rattle.reading.specs.Trace.{Entry, message}
use Rattle.reading.specs.Noted.{Reading, on, stop, Ended, noted}
use Rattle.reading.specs.Verdict.{accepted}
use Rattle.reading.specs.Judged.{whats, listed, judged}
use Rattle.reading.specs.Items.{Item, notes_of, the_items}
use Rattle.reading.proofs.Flat.{never, same_end}
use Rattle.items.specs.Chain.{Stands, around, Chained, next}
use Rattle.items.specs.Places.{field_place}
use Rattle.items.proofs.Accepted.{accepted_chained}
use Rattle.notes.specs.declared.Notes.{Notes}
use Rattle.notes.proofs.Sums.{Summed}
use Rattle.engine.specs.Engine.{item_at}
use Rattle.std.specs.Prelude.{Ok}
use Rattle.judge.specs.declared.Survey.{Survey}
use Rattle.judge.specs.Verdict.{version_of}
use Rattle.judge.specs.Found.{denied, Found, found_by, found}
use Rattle.judge.specs.Survey.{without, Surveyed, surveyed_as, service_number, places, surveyed, survey}
use Rattle.judge.specs.Index.{survey_with}
use Rattle.judge.proofs.Index.{in_room, survey_room}
use Rattle.judge.proofs.Alone.{stands_again}
use Rattle.judge.proofs.Judges.{survey_found}
use Rattle.judge.proofs.Walks.{found_verdict, verdict_surveyed, found_chained, short}
use Rattle.records.specs.Engine.{start_of, Ready}

-- ---- what was noted of an accepted message: where the last value of each field begins
places_noted : (m : List ℕ) (n c : ℕ) → judged m ≡ accepted n c → (survey m).places ≡ places (notes_of (noted listed (message m) []))
unfolding survey found
places_noted m n c e = go (found_by (noted listed (message m) [])) (found_verdict m ∙ e)
  where
    es : List Entry
    es = notes_of (noted listed (message m) [])

    go : (x : Found) → x.verdict ≡ accepted n c → (surveyed x (service_number (whats es)) (places es)).places ≡ places es
    go x h = rw h

-- ---- what the judge noted of a message that it accepts
module _ (m : List ℕ) (s : Survey) (e : surveyed_as (Ok s) ≡ survey m) where
  pub accepted_is : judged m ≡ accepted s.finding.accepted.count s.finding.accepted.cents
  accepted_is = sym (verdict_surveyed m (surveyed_as (Ok s)) e)

  pub ready : Ready m s.finding.accepted.count s.finding.first s.starts
  ready = record {
    cents = s.finding.accepted.cents;
    accepted = accepted_is;
    begins = ap (λ (x : Surveyed). x.found.first) e;
    noted = ap (λ (x : Surveyed). x.places) e;
  }

-- with an index: an accepted message had one with room
pub surveyed_with : (index m : List ℕ) (s : Survey) → surveyed_as (Ok s) ≡ survey_with index m → surveyed_as (Ok s) ≡ survey m
surveyed_with index m s e = e ∙ in_room index (without (denied 25 0)) (survey m) (survey_room index m s e)

-- ---- so many items are done, and the others stand from here on
pub record Going (m : List ℕ) (count i at : ℕ) : Type 0 where
  pub some : i ≤ count
  pub within : at ≤ length m
  pub done : List Item
  pub due : List Item
  pub all : the_items m ≡ done ++ due
  pub many : length done ≡ i
  pub chain : Chained (version_of m) m at due

-- the next item, what was noted of it, and the walk behind it
pub record Next (m : List ℕ) (count i at : ℕ) (g : Going m count i at) (s : Ended Notes) : Type 0 where
  pub it : Item
  pub after : List Item
  pub is : the_items m ≡ g.done ++ (it ∷ after)
  pub stands : Stands (version_of m) m at it
  pub summed : Summed (around it stands.inner) s.notes
  pub going : Going m count (i + 1) s.at
  pub more : going.done ≡ g.done ++ (it ∷ [])

module _ (m : List ℕ) (count first : ℕ) (above : List ℕ) (r : Ready m count first above) where
  small : length m ≤ most_bytes
  small = short m count r.cents r.accepted

  many : length (the_items m) ≡ count
  many = (accepted_chained m count r.cents r.accepted).many

  first_is : first ≡ (found m).first
  first_is = r.begins ∙ ap (λ (x : Found). x.first) (survey_found m)

  chain : (first ≤ length m) × Chained (version_of m) m first (the_items m)
  chain = rw first_is (found_chained m count r.cents r.accepted)

  -- what was noted of the whole message, and so of the fields that may stand in its header
  above-noted : (f : Field) → start_of above f ≡ start_of (places (notes_of (noted listed (message m) []))) f
  above-noted f = ap (λ (l : List ℕ). start_of l f) (r.noted ∙ places_noted m count r.cents r.accepted)

  pub sequence_noted : start_of above SeqTp ≡ field_place SeqTp (notes_of (noted listed (message m) []))
  unfolding places
  sequence_noted = above-noted SeqTp

  pub instrument_noted : start_of above LclInstrm ≡ field_place LclInstrm (notes_of (noted listed (message m) []))
  unfolding places
  instrument_noted = above-noted LclInstrm

  pub begins : Going m count 0 first
  begins = record { some = omega arith; within = chain.0; done = []; due = the_items m; all = refl; many = refl; chain = chain.1 }

  pub none_done : begins.done ≡ []
  unfolding begins
  none_done = refl

  module _ (i at : ℕ) (g : Going m count i at) where
    as_many : i + length g.due ≡ count
    as_many = omega (arith, many, ap length g.all, length-append g.done g.due, g.many)

    pub all_done : count ≤ i → the_items m ≡ g.done
    all_done h = go g.due g.all as_many
      where
        go : (l : List Item) → the_items m ≡ g.done ++ l → i + length l ≡ count → the_items m ≡ g.done
        go [] e n = e ∙ append-nil g.done
        go (x ∷ l) e n = absurd (let y : ⊥ = omega arith in y)

    module _ (h : i < count) (y : Reading (Ended Notes)) (e : y ≡ item_at (version_of m) m at) where
      pub never_stops : (n q : ℕ) → y ≡ stop n q → {A : Type 0} → A
      never_stops n q z {A = A} = go g.due g.chain as_many
        where
          go : (l : List Item) → Chained (version_of m) m at l → i + length l ≡ count → A
          go [] c k = never (omega arith)
          go (x ∷ l) (next s c) k =
              let a = stands_again (version_of m) m at x small g.within s in
              never (cc a.is)

      pub goes_on : (s : Ended Notes) → y ≡ on s → Next m count i at g s
      goes_on s z = go g.due g.all g.chain as_many
        where
          go : (l : List Item) → the_items m ≡ g.done ++ l → Chained (version_of m) m at l → i + length l ≡ count → Next m count i at g s
          go [] b c k = never (omega arith)
          go (x ∷ l) b (next t c) k =
              let a = stands_again (version_of m) m at x small g.within t in
              let u : a.state ≡ s = same_end a.state s (sym a.is ∙ (sym e ∙ z)) in
              let d : s.at ≡ x.to = sym (ap (λ (w : Ended Notes). w.at) u) ∙ a.to in
              record {
                it = x;
                after = l;
                is = b;
                stands = t;
                summed = rw (← ap (λ (w : Ended Notes). w.notes) u) a.summed;
                going =
                    record {
                      some = omega arith;
                      within = rw d t.within;
                      done = g.done ++ (x ∷ []);
                      due = l;
                      all = b ∙ sym (append_assoc g.done (x ∷ []) l);
                      many = length-append g.done (x ∷ []) ∙ omega (arith, g.many);
                      chain = rw d c;
                    };
                more = refl;
              }
