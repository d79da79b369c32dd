-- Which of the four sequence types a value is: so its item's cents go to one of four sums, or to none.
use mathlib.Core.Path.{◌≡◌, refl, sym, ◌∙◌}
use mathlib.Core.Bool.{Bool, true, false}
use mathlib.Core.List.{List, [], ◌∷◌, ◌++◌}
use Prim.Native.Nat.{ℕ, ◌+◌, ◌≤◌}
use Prim.Native.String.{String}
use native.Mathlib.Nat.{add-zero}
use native.Mathlib.Omega.{arith}
use Rattle.text.specs.Truth.{pick}
use Rattle.text.specs.Quoted.{bytes, is}
use Rattle.codes.specs.declared.Element.TheVariants.{SeqTp}
use Rattle.codes.specs.Listed.{codes_of, code_given}
use Rattle.profile.specs.declared.Field as field
use Rattle.reading.specs.Trace.{What}
use Rattle.reading.specs.Items.{Item}
use Rattle.reading.proofs.Lists.{alike_same}
use Rattle.postings.specs.Record.{value_for, cents_for}
use Rattle.documents.specs.Holds.{Passes}
use Rattle.sums.specs.Sums.{of_type, cents_by, each_type, total}
use Rattle.sums.specs.Engine.{place_of, added}

data Which (v : List ℕ) : Type 0 where
  frst : v ≡ bytes "FRST" → Which v
  rcur : v ≡ bytes "RCUR" → Which v
  fnal : v ≡ bytes "FNAL" → Which v
  ooff : v ≡ bytes "OOFF" → Which v
  other : is "FRST" v ≡ false → is "RCUR" v ≡ false → is "FNAL" v ≡ false → is "OOFF" v ≡ false → Which v

which : (v : List ℕ) → Which v
which v = go (is "FRST" v) (is "RCUR" v) (is "FNAL" v) (is "OOFF" v) refl refl refl refl
  where
    go : (a b c d : Bool) → is "FRST" v ≡ a → is "RCUR" v ≡ b → is "FNAL" v ≡ c → is "OOFF" v ≡ d → Which v
    go true b c d p q r s = frst (sym (alike_same (bytes "FRST") v p))
    go false true c d p q r s = rcur (sym (alike_same (bytes "RCUR") v q))
    go false false true d p q r s = fnal (sym (alike_same (bytes "FNAL") v r))
    go false false false true p q r s = ooff (sym (alike_same (bytes "OOFF") v s))
    go false false false false p q r s = other p q r s

-- what of some cents goes to each of the four
abbrev pub shares : List ℕ → ℕ → List ℕ
shares v c = pick (is "FRST" v) c 0 ∷ pick (is "RCUR" v) c 0 ∷ pick (is "FNAL" v) c 0 ∷ pick (is "OOFF" v) c 0 ∷ []

module _ (v : List ℕ) (c : ℕ) where
  -- all of them, where it is one of the four; and never more
  pub all_shared : Passes (code_given SeqTp v) → total (shares v c) ≡ c
  unfolding code_given
  all_shared h = go (which v) h
    where
      go : Which v → Passes (code_given SeqTp v) → total (shares v c) ≡ c
      go (frst e) h = rw e (omega arith)
      go (rcur e) h = rw e (omega arith)
      go (fnal e) h = rw e (omega arith)
      go (ooff e) h = rw e (omega arith)
      go (other p q r s) h = absurd (rw (p, q, r, s) at h)

  pub no_more : total (shares v c) ≤ c
  no_more = go (which v)
    where
      go : Which v → total (shares v c) ≤ c
      go (frst e) = rw e (omega arith)
      go (rcur e) = rw e (omega arith)
      go (fnal e) = rw e (omega arith)
      go (ooff e) = rw e (omega arith)
      go (other p q r s) = rw (p, q, r, s) (omega arith)

  -- the code adds them to the sum at the type's place
  added_is : (i j k l : ℕ) → added (place_of (code_given SeqTp v)) c (i ∷ j ∷ k ∷ l ∷ [])
      ≡ (i + pick (is "FRST" v) c 0) ∷ (j + pick (is "RCUR" v) c 0) ∷ (k + pick (is "FNAL" v) c 0) ∷ (l + pick (is "OOFF" v) c 0) ∷ []
  unfolding code_given
  added_is i j k l = go (which v)
    where
      go : Which v → added (place_of (code_given SeqTp v)) c (i ∷ j ∷ k ∷ l ∷ [])
          ≡ (i + pick (is "FRST" v) c 0) ∷ (j + pick (is "RCUR" v) c 0) ∷ (k + pick (is "FNAL" v) c 0) ∷ (l + pick (is "OOFF" v) c 0) ∷ []
      go (frst e) = rw e (simp add-zero)
      go (rcur e) = rw e (simp add-zero)
      go (fnal e) = rw e (simp add-zero)
      go (ooff e) = rw e (simp add-zero)
      go (other p q r s) = rw (p, q, r, s) (simp add-zero)

-- ---- one item more
module _ (h : List What) where
  by-more : (q : String) (l : List Item) (x : Item) → cents_by q h (l ++ (x ∷ [])) ≡ cents_by q h l + of_type q (h ++ x.holds)
  by-more q [] x = omega arith
  by-more q (y ∷ l) x = omega (arith, by-more q l x)

  pub one_more : (l : List Item) (x : Item)
      → added (place_of (code_given SeqTp (value_for (h ++ x.holds) field.TheVariants.SeqTp))) (cents_for (h ++ x.holds)) (each_type (codes_of SeqTp) h l) ≡ each_type (codes_of SeqTp) h (l ++ (x ∷ []))
  one_more l x =
      added_is (value_for (h ++ x.holds) field.TheVariants.SeqTp) (cents_for (h ++ x.holds)) (cents_by "FRST" h l) (cents_by "RCUR" h l) (cents_by "FNAL" h l) (cents_by "OOFF" h l)
      ∙ rw (by-more "FRST" l x, by-more "RCUR" l x, by-more "FNAL" l x, by-more "OOFF" l x)
