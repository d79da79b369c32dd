-- A key, as its four values are written one behind the other, over spaces.
use mathlib.Core.Path.{◌≡◌, refl, ◌∙◌}
use mathlib.Core.List.{List, [], ◌++◌, append_assoc, append-nil}
use Prim.Native.Nat.{ℕ}
use borrow.Rule.Slice.PartMut.{put_mid}
use lib.ListN.{length, take, drop, replicate}
use Rattle.postings.specs.Record.{padded}
use Rattle.naming.specs.Key.{key_length, key_with}
use Rattle.naming.proofs.Parts.{So, next_part}

abbrev spaces : List ℕ
spaces = replicate key_length 32

nothing : So 0 60 [] spaces
nothing = record { is = refl; long = refl }

module _ (s x : List ℕ) (e : x ≡ padded (length (take 4 (drop 0 spaces))) s) where
  abbrev one : List ℕ
  one = put_mid 0 4 spaces x

  pub with_service_lem : So 4 56 ([] ++ padded 4 s) one
  with_service_lem = next_part 4 56 nothing s x e

  module _ (i y : List ℕ) (f : y ≡ padded (length (take 35 (drop 4 one))) i) where
    abbrev two : List ℕ
    two = put_mid 4 35 one y

    pub with_id : So 39 21 ([] ++ padded 4 s ++ padded 35 i) two
    with_id = next_part 35 21 with_service_lem i y f

    module _ (b z : List ℕ) (g : z ≡ padded (length (take 11 (drop 39 two))) b) where
      abbrev three : List ℕ
      three = put_mid 39 11 two z

      pub with_bic : So 50 10 ([] ++ padded 4 s ++ padded 35 i ++ padded 11 b) three
      with_bic = next_part 11 10 with_id b z g

      pub with_date : (d w : List ℕ) → w ≡ padded (length (take 10 (drop 50 three))) d → put_mid 50 10 three w ≡ key_with s i b d
      unfolding key_with
      with_date d w h = (next_part 10 0 with_bic d w h).is ∙ rw append-nil (simp append_assoc)
