-- The lent index: too short, or with room.
use mathlib.Core.Path.{◌≡◌, refl, ap, ◌∙◌}
use mathlib.Core.Bool.{Bool, true, false}
use mathlib.Core.List.{List}
use Rattle.std.specs.Prelude.{Ok}
use Prim.Native.Nat.{ℕ, ◌≤◌, ◌<◌}
use borrow.Author.Tests.{lt-ltb, le-ltb, lt-leb}
use lib.Dec.{ltb}
use lib.ListN.{length}
use Rattle.text.specs.Truth.{pick}
use Rattle.text.proofs.Truths.{never}
use Rattle.reading.specs.Verdict.{Judged, accepted, refused}
use Rattle.twice.specs.Twice.{least_index, cleared}
use Rattle.judge.specs.declared.Accepted.{Accepted}
use Rattle.judge.specs.declared.Survey.{Survey}
use Rattle.judge.specs.Verdict.{meant}
use Rattle.judge.specs.Found.{denied}
use Rattle.judge.specs.Survey.{Surveyed, surveyed_as, without, survey}
use Rattle.judge.specs.Index.{or_short, survey_with}

module _ {A : Type 0} (index : List ℕ) (a b : A) where
  pub too_short_lem : length index < 16384 → a ≡ or_short index a b
  unfolding or_short least_index
  too_short_lem h = rw (lt-ltb (length index) 16384 h)

  pub has_room : 16384 ≤ length index → b ≡ or_short index a b
  unfolding or_short least_index
  has_room h = rw (le-ltb (length index) 16384 h)

-- what is made of it is so too
pub made_of : {A B : Type 0} (f : A → B) (index : List ℕ) (a b : A) → f (or_short index a b) ≡ or_short index (f a) (f b)
unfolding or_short
made_of f index a b = go (ltb (length index) least_index)
  where
    go : (c : Bool) → f (pick c a b) ≡ pick c (f a) (f b)
    go true = refl
    go false = refl

-- one that is too short is as lent
pub as_lent_lem : (index : List ℕ) → length index < 16384 → index ≡ cleared index
unfolding cleared least_index
as_lent_lem index h = rw (lt-leb 16384 (length index) h)

-- ---- either way
pub data Indexed (index : List ℕ) : Type 0 where
  short : ltb (length index) least_index ≡ true → Indexed index
  roomy : ltb (length index) least_index ≡ false → Indexed index

pub indexed : (index : List ℕ) → Indexed index
indexed index = go (ltb (length index) least_index) refl
  where
    go : (b : Bool) → ltb (length index) least_index ≡ b → Indexed index
    go true e = short e
    go false e = roomy e

module _ {A : Type 0} (index : List ℕ) (a b : A) where
  pub in_short : ltb (length index) least_index ≡ true → or_short index a b ≡ a
  unfolding or_short
  in_short e = rw e

  pub in_room : ltb (length index) least_index ≡ false → or_short index a b ≡ b
  unfolding or_short
  in_room e = rw e

-- who accepts had one with room
pub accepted_room : (index : List ℕ) (a : Accepted) (j : Judged) → meant (Ok a) ≡ or_short index (refused 25 0) j → ltb (length index) least_index ≡ false
accepted_room index a j e = go (indexed index)
  where
    go : Indexed index → ltb (length index) least_index ≡ false
    go (short h) =
        let d : accepted a.count a.cents ≡ refused 25 0 = e ∙ in_short index (refused 25 0) j h in
        never (cc)
    go (roomy h) = h

-- in a survey
pub survey_room : (index m : List ℕ) (s : Survey) → surveyed_as (Ok s) ≡ survey_with index m → ltb (length index) least_index ≡ false
survey_room index m s e =
    accepted_room index s.finding.accepted (survey m).found.verdict
    (ap (λ (x : Surveyed). x.found.verdict) e ∙ made_of (λ (x : Surveyed). x.found.verdict) index (without (denied 25 0)) (survey m))
