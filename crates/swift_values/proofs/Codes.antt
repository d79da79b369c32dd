-- A code by its bytes.
use mathlib.Core.Path.{◌≡◌, refl, sym, ap, ◌∙◌}
use mathlib.Core.Bool.{true, ◌&&◌}
use mathlib.Core.List.{List, [], ◌∷◌}
use Prim.Native.Nat.{ℕ, ◌+◌, ◌≤◌, ◌<◌}
use native.Mathlib.Omega.{arith}
use borrow.Author.Tests.{eqb-true}
use lib.Dec.{eqb}
use lib.ListN.{length, take, drop, get_or}
use lib.Seq.{take-take}
use Rattle.text.specs.Truth.{part, every}
use Rattle.answers.specs.Given.{worth}
use Rattle.codes.specs.declared.Element.{Element}
use Rattle.codes.specs.declared.Element.TheVariants.{SttlmMtd, SvcLvl, LclInstrm, SeqTp, ChrgBr, Prtry}
use Rattle.codes.specs.Listed.{code_given}
use Rattle.profile.specs.declared.Kind.TheVariants.{Code}
use Rattle.tags.specs.Values.{in_value}
use Rattle.swift_values.specs.Stands.{StandsFor}
use Rattle.swift_values.proofs.Blocks.{part_byte, four_list}
use Rattle.swift_values.proofs.Lanes.{and_split}
use Rattle.swift_values.proofs.Parts.{stands_part}

module _ (m : List ℕ) (p : ℕ) where
  pub four_are : (a b c d : ℕ) → p + 4 ≤ length m → (((eqb (get_or m p 0) a && eqb (get_or m (p + 1) 0) b) && eqb (get_or m (p + 2) 0) c) && eqb (get_or m (p + 3) 0) d) ≡ true
      → part p 4 m ≡ a ∷ b ∷ c ∷ d ∷ []
  four_are a b c d fits h =
      let x = and_split ((eqb (get_or m p 0) a && eqb (get_or m (p + 1) 0) b) && eqb (get_or m (p + 2) 0) c) (eqb (get_or m (p + 3) 0) d) h in
      let y = and_split (eqb (get_or m p 0) a && eqb (get_or m (p + 1) 0) b) (eqb (get_or m (p + 2) 0) c) x.0 in
      let z = and_split (eqb (get_or m p 0) a) (eqb (get_or m (p + 1) 0) b) y.0 in
      four_list m p fits ∙ rw (eqb-true (get_or m p 0) a z.0, eqb-true (get_or m (p + 1) 0) b z.1, eqb-true (get_or m (p + 2) 0) c y.1, eqb-true (get_or m (p + 3) 0) d x.1) refl

  pub code_stands : (e : Element) (w : ℕ) (s : List ℕ) → 0 < p → p + 5 ≤ length m → every in_value s ≡ true → code_given e s ≡ worth w → part p 4 m ≡ s → get_or m (p + 4) 0 ≡ 60
      → StandsFor (Code e) (worth w) m p (p + 4)
  code_stands e w s begun fits value given is behind = stands_part (Code e) (worth w) m p 4 begun (omega arith) (rw is value) behind (rw is given)

  -- the one of three characters
  pub b2b_stands : 0 < p → p + 5 ≤ length m → part p 4 m ≡ 66 ∷ 50 ∷ 66 ∷ 60 ∷ [] → StandsFor (Code LclInstrm) (worth 1) m p (p + 3)
  unfolding code_given
  b2b_stands begun fits is =
      let three : part p 3 m ≡ 66 ∷ 50 ∷ 66 ∷ [] = sym (take-take 3 4 (drop p m) (omega arith)) ∙ ap (take 3) is in
      let last : get_or m (p + 3) 0 ≡ 60 = sym (part_byte m p 4 (omega arith) 3 (omega arith)) ∙ ap (λ (l : List ℕ). get_or l 3 0) is in
      stands_part (Code LclInstrm) (worth 1) m p 3 begun (omega arith) (rw three refl) last (rw three refl)

-- ---- the lists
pub clrg : code_given SttlmMtd (67 ∷ 76 ∷ 82 ∷ 71 ∷ []) ≡ worth 0
unfolding code_given
clrg = refl

pub sepa : code_given SvcLvl (83 ∷ 69 ∷ 80 ∷ 65 ∷ []) ≡ worth 0
unfolding code_given
sepa = refl

pub core : code_given LclInstrm (67 ∷ 79 ∷ 82 ∷ 69 ∷ []) ≡ worth 0
unfolding code_given
core = refl

pub frst : code_given SeqTp (70 ∷ 82 ∷ 83 ∷ 84 ∷ []) ≡ worth 0
unfolding code_given
frst = refl

pub rcur : code_given SeqTp (82 ∷ 67 ∷ 85 ∷ 82 ∷ []) ≡ worth 1
unfolding code_given
rcur = refl

pub fnal : code_given SeqTp (70 ∷ 78 ∷ 65 ∷ 76 ∷ []) ≡ worth 2
unfolding code_given
fnal = refl

pub ooff : code_given SeqTp (79 ∷ 79 ∷ 70 ∷ 70 ∷ []) ≡ worth 3
unfolding code_given
ooff = refl

pub slev : code_given ChrgBr (83 ∷ 76 ∷ 69 ∷ 86 ∷ []) ≡ worth 0
unfolding code_given
slev = refl

pub prtry : code_given Prtry (83 ∷ 69 ∷ 80 ∷ 65 ∷ []) ≡ worth 0
unfolding code_given
prtry = refl
