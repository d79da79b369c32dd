-- From item to item: what the code asks for is what the list says.
use mathlib.Core.Path.{◌≡◌, refl, sym, ap, ◌∙◌}
use mathlib.Core.Bool.{Bool, true, false}
use mathlib.Core.List.{List, []}
use Rattle.std.specs.Prelude.{Ok, Err}
use Prim.Native.Nat.{ℕ, zero, suc, ◌≤◌, ◌<◌}
use native.Mathlib.Omega.{arith}
use lib.Dec.{ltb}
use lib.ListN.{length}
use Rattle.text.specs.Truth.{pick}
use Rattle.text.proofs.Truths.{never}
use Rattle.profile.specs.declared.Version.{Version}
use Rattle.profile.specs.Limits.{most_bytes}
use Rattle.reading.specs.Trace.{Entry, message}
use Rattle.reading.specs.Noted.{Reading, on, Ended, noted}
use Rattle.reading.specs.Verdict.{Judged, accepted, refused, Located, not_there}
use Rattle.reading.specs.Judged.{listed, verdict, judged}
use Rattle.reading.specs.Items.{Item, notes_of, item_from, the_items, item}
use Rattle.items.specs.Alone.{first_in}
use Rattle.items.specs.Chain.{Chained, none, next, Itemized}
use Rattle.items.proofs.Accepted.{accepted_chained, item_asked, item_past}
use Rattle.notes.specs.declared.Notes.{Notes}
use Rattle.engine.specs.Engine.{item_at}
use Rattle.twice.specs.Twice.{least_index}
use Rattle.answers.specs.declared.Refused.{Refused}
use Rattle.answers.specs.Refusals.{refusal_number}
use Rattle.judge.specs.declared.Finding.{Finding}
use Rattle.judge.specs.Verdict.{version_of}
use Rattle.judge.specs.Found.{Found, found_as, denied, found_in, found}
use Rattle.judge.specs.Survey.{Surveyed, without, survey}
use Rattle.judge.specs.Index.{or_short, judged_with, item_with, found_with, survey_with}
use Rattle.judge.specs.Engine.{behind_in, walked_in}
use Rattle.judge.proofs.Alone.{stands_again}
use Rattle.judge.proofs.Index.{made_of}
use Rattle.judge.proofs.Judges.{survey_found}

-- ---- the verdict in what is found
pub found_verdict : (m : List ℕ) → (found m).verdict ≡ judged m
unfolding found judged
found_verdict m = go (verdict (noted listed (message m) []))
  where
    go : (j : Judged) → (found_in j (notes_of (noted listed (message m) []))).verdict ≡ j
    go (accepted n c) = refl
    go (refused n p) = refl

pub found_first : (m : List ℕ) (n c : ℕ) → judged m ≡ accepted n c → (found m).first ≡ first_in (notes_of (noted listed (message m) []))
unfolding found judged
found_first m n c e = rw e

-- ---- and both in a survey, with an index and without
pub verdict_surveyed : (m : List ℕ) (s : Surveyed) → s ≡ survey m → s.found.verdict ≡ judged m
verdict_surveyed m s e = ap (λ (x : Surveyed). x.found.verdict) e ∙ (ap (λ (f : Found). f.verdict) (survey_found m) ∙ found_verdict m)

module _ (index m : List ℕ) (s : Surveyed) (e : s ≡ survey_with index m) where
  pub found_with_index : s.found ≡ found_with index m
  found_with_index =
      ap (λ (x : Surveyed). x.found) e
      ∙ (made_of (λ (x : Surveyed). x.found) index (without (denied 25 0)) (survey m) ∙ ap (or_short index (denied 25 0)) (survey_found m))

  pub judged_with_index : s.found.verdict ≡ judged_with index m
  judged_with_index =
      ap (λ (x : Surveyed). x.found.verdict) e
      ∙ (made_of (λ (x : Surveyed). x.found.verdict) index (without (denied 25 0)) (survey m)
      ∙ ap (or_short index (refused 25 0)) (verdict_surveyed m (survey m) refl))

-- ---- from item to item, as the code goes: with k items left to pass, what is asked at the start is what is asked here
pub walk_on : (v : Version) (m : List ℕ) (k at : ℕ) (t : Located) → walked_in k v m at ≡ t → (s : Ended Notes) → on s ≡ item_at v m at
    → (j : ℕ) → k ≡ suc j → walked_in j v m s.at ≡ t
walk_on v m k at t same s e j z = ap (λ (r : Reading (Ended Notes)). behind_in r (walked_in j v m)) e ∙ (rw z at same)

-- ---- the items of an accepted message, read again one behind the other
module _ (v : Version) (m : List ℕ) (small : length m ≤ most_bytes) where
  pub chain_walked_in : {p : ℕ} {l : List Item} → Chained v m p l → p ≤ length m → (i : ℕ) → i < length l → walked_in i v m p ≡ item_from i l
  chain_walked_in none h i g = never (omega arith)
  chain_walked_in {p = p} (next {x = x} s c) h zero g =
      let a = stands_again v m p x small h s in
      rw (a.is, s.from, a.to)
  chain_walked_in {p = p} (next {x = x} s c) h (suc i) g =
      let a = stands_again v m p x small h s in
      rw (a.is, a.to) (chain_walked_in c s.within i (omega arith))

module _ (m : List ℕ) (n c : ℕ) (e : judged m ≡ accepted n c) where
  abbrev it : Itemized m n
  it = accepted_chained m n c e

  version-read : it.version ≡ version_of m
  unfolding version_of
  version-read = rw it.opens

  first_is : (found m).first ≡ first_in it.ended.notes
  first_is = found_first m n c e ∙ ap (λ (x : Reading (Ended (List Entry))). first_in (notes_of x)) it.goes

  -- an accepted message's items, from the first one on, as found
  pub found_chained : ((found m).first ≤ length m) × Chained (version_of m) m (found m).first (the_items m)
  found_chained = rw (first_is, ← version-read) (it.within, it.chain)

  pub short : length m ≤ most_bytes
  short = it.short

  pub item_there : (i : ℕ) → i < n → (v : Version) → v ≡ version_of m → (f : ℕ) → f ≡ (found m).first → walked_in i v m f ≡ item i m
  item_there i h v w f z =
      rw (w, z) (chain_walked_in (version_of m) m short found_chained.1 found_chained.0 i (omega (arith, it.many)) ∙ sym (item_asked m n c e i))

  pub item_none : (i : ℕ) → n ≤ i → not_there 18 0 ≡ item i m
  item_none i h = sym (item_past m n c e i h)

pub item_refused : (m : List ℕ) (n p i : ℕ) → judged m ≡ refused n p → not_there n p ≡ item i m
unfolding item
item_refused m n p i e = rw e

-- ---- with an index: one that is too short is 25; an accepted message had one with room
module _ (index m : List ℕ) where
  pub refused_with : (r : Refused) (i : ℕ) → found_as (Err r) ≡ found_with index m → not_there (refusal_number r.why) r.at ≡ item_with index i m
  unfolding or_short
  refused_with r i e = go (ltb (length index) least_index) e
    where
      go : (b : Bool) → found_as (Err r) ≡ pick b (denied 25 0) (found m) → not_there (refusal_number r.why) r.at ≡ pick b (not_there 25 0) (item i m)
      go true y =
          let d : refused (refusal_number r.why) r.at ≡ refused 25 0 = ap (λ (x : Found). x.verdict) y in
          cc
      go false y = item_refused m (refusal_number r.why) r.at i (sym (found_verdict m) ∙ ap (λ (x : Found). x.verdict) (sym y))

  module _ (f : Finding) (e : found_as (Ok f) ≡ found_with index m) where
    with-room : (found_as (Ok f) ≡ found m) × (ltb (length index) least_index ≡ false)
    unfolding or_short
    with-room = go (ltb (length index) least_index) refl e
      where
        go : (b : Bool) → ltb (length index) least_index ≡ b → found_as (Ok f) ≡ pick b (denied 25 0) (found m) → (found_as (Ok f) ≡ found m) × (ltb (length index) least_index ≡ false)
        go true x y =
            let d : accepted f.accepted.count f.accepted.cents ≡ refused 25 0 = ap (λ (x : Found). x.verdict) y in
            never (cc)
        go false x y = (y, x)

    pub accepted_with : judged m ≡ accepted f.accepted.count f.accepted.cents
    accepted_with = sym (found_verdict m) ∙ ap (λ (x : Found). x.verdict) (sym with-room.0)

    pub first_with : f.first ≡ (found m).first
    first_with = ap (λ (x : Found). x.first) with-room.0

    -- so whatever is asked is as it is asked without one
    pub asked_with : {A : Type 0} (a b : A) → b ≡ or_short index a b
    unfolding or_short
    asked_with a b = rw with-room.1
