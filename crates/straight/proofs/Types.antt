-- The payment type, and the direct debit: what the exact readers read is what the definition says of them.
use Rattle.std.proofs.Common.{◌≡◌, ℕ, ◌+◌, ◌≤◌, true, false, List, length, drop, refl, ap, ◌∙◌, arith}
use Prim.Native.String.{String}
use Rattle.tags.specs.declared.Look.{Look}
use Rattle.tags.specs.declared.Look.TheVariants.{Whole, Cut, Other}
use Rattle.tags.specs.Tags.{skipped, look, on_look, exactly, plain_tag, end_tag}
use Rattle.codes.specs.declared.Element.TheVariants as code
use Rattle.profile.specs.declared.Kind.TheVariants.{Plain, Code}
use Rattle.profile.specs.declared.Simple.TheVariants.{Reference, Date, Identifier}
use Rattle.profile.specs.declared.Field.TheVariants.{SvcLvl, LclInstrm, SeqTp, MndtId, DtOfSgntr, CdtrId, Prtry}
use Rattle.profile.specs.Tree.{once, optional, Shape, end, leaf, group, children}
use Rattle.profile.specs.Profile.{type_name, is_type, payment_type}
use Rattle.reading.specs.Trace.{there, absent, ◌at◌, Trace, met, up_to, fault, and_then, ends, trace}
use Rattle.reading.specs.Noted.{Reading, on, stop, onward, Ended}
use Rattle.notes.specs.declared.Notes.{Notes}
use Rattle.notes.specs.Notes.{type_noted}
use Rattle.notes.specs.Steps.{staying, reads, Good, Fine}
use Rattle.notes.proofs.Notings.{here}
use Rattle.notes.proofs.Stays.{good_at, type_fine}
use Rattle.engine.specs.Engine.{or_else, placed}
use Rattle.straight.specs.Exact.{leaf_of, end_of, open_of, one_of, in_type_of, type_of, mandate_of, other_of, private_of, own_of, scheme_of, debit_of, Makes}
use Rattle.straight.proofs.Made.{may_ends}
use Rattle.straight.proofs.Elements.{child_once, end_is, MakesThen, makes_by}
use Rattle.straight.proofs.Groups.{then_each, next_is, group_is, one_is}

abbrev Going : Type 0
Going = Reading (Ended Notes)

-- ---- what is noted of it
-- on at another place
pub after_fine : (m : List ℕ) (q z : ℕ) (a b : Going) → Fine m q a → z ≤ length m → b ≡ onward a (λ s. on (here z s.notes)) → Fine m 0 b
after_fine m q z (on s) b f h e = rw e (good_at m s z f.0 h, omega arith)
after_fine m q z (stop n p) b f h e = rw e f

-- where a step is taken, and its place is set then
pub goes_at : (a : Going) (s : Ended Notes) → on s ≡ a → (z : ℕ) (t : Ended Notes) → t ≡ here z s.notes → on t ≡ onward a (λ (u : Ended Notes). on (here z u.notes))
goes_at a s e z t h = rw (← e) (ap on h)

module _ (m : List ℕ) (q : ℕ) (x : Notes) (ps : List ℕ) where
  pub type_there : (z : ℕ) (a : Going) → a ≡ staying q (type_noted true q x) → (b : Going) → b ≡ onward a (λ s. on (here z s.notes)) → (r : Going) (y : List ℕ) → MakesThen m (in_type_of m) b ps r y
      → Makes m (met (there type_name at q) (in_type_of m z)) x ps r y
  unfolding is_type
  type_there z a e b f r y i = makes_by 0 r (go (type_noted true q x) (f ∙ ap (λ (c : Going). onward c (λ s. on (here z s.notes))) e) i)
    where
      go : (w : Reading Notes) → b ≡ onward (staying q w) (λ s. on (here z s.notes)) → MakesThen m (in_type_of m) b ps r y
          → (r ≡ onward w (reads (in_type_of m z))) × Fine m 0 r × (y ≡ or_else w (λ u. placed (in_type_of m z) u ps) ps)
      go (on u) h j = (
        j.0 ∙ ap (λ (c : Going). onward c (λ s. reads (in_type_of m s.at) s.notes)) h,
        j.1,
        j.2 ∙ ap (λ (c : Going). or_else c (λ s. placed (in_type_of m s.at) s.notes ps) ps) h,
      )
      go (stop n p) h j = (
        j.0 ∙ ap (λ (c : Going). onward c (λ s. reads (in_type_of m s.at) s.notes)) h,
        j.1,
        j.2 ∙ ap (λ (c : Going). or_else c (λ s. placed (in_type_of m s.at) s.notes ps) ps) h,
      )

  pub type_refused : Good m (here q x) → (z : ℕ) → z ≤ length m → (a : Going) → a ≡ staying q (type_noted true q x) → (n p : ℕ) → stop n p ≡ a
      → Makes m (met (there type_name at q) (in_type_of m z)) x ps (stop n p) ps
  type_refused g z w a e n p h =
      let f : stop n p ≡ onward a (λ (s : Ended Notes). on (here z s.notes)) = rw (← h) refl in
      type_there z a e (stop n p) f (stop n p) ps (refl, after_fine m q z a (stop n p) (rw e (type_fine m q x g true)) w f, refl)

  pub type_absent : Good m (here q x) → (a : Going) → a ≡ staying q (type_noted false q x) → Makes m (met (absent type_name at q) (up_to q)) x ps a ps
  unfolding is_type
  type_absent g a e = makes_by q a (e, rw e (type_fine m q x g false), go (type_noted false q x))
    where
      go : (w : Reading Notes) → ps ≡ or_else w (λ u. ps) ps
      go (on u) = refl
      go (stop n p) = refl

-- ---- the definition
module _ (m : List ℕ) where
  pub in_type_is : (p : ℕ) → trace (children payment_type (end type_name)) m p ≡ in_type_of m p
  in_type_is p =
      let a = one_of (plain_tag "SvcLvl") (plain_tag "Cd") (end_tag "Cd") (end_tag "SvcLvl") (Code code.SvcLvl) SvcLvl m p in
      let b = one_of (plain_tag "LclInstrm") (plain_tag "Cd") (end_tag "Cd") (end_tag "LclInstrm") (Code code.LclInstrm) LclInstrm m in
      let c = leaf_of false (plain_tag "SeqTp") (end_tag "SeqTp") (Code code.SeqTp) SeqTp m in
      let s2 = leaf once "SeqTp" (Code code.SeqTp) SeqTp (end type_name) in
      let s1 = group once "LclInstrm" (leaf once "Cd" (Code code.LclInstrm) LclInstrm (end "LclInstrm")) s2 in
      one_is m (Code code.SvcLvl) SvcLvl refl "SvcLvl" "Cd" s1 p
      ∙ (next_is a (trace s1 m) b (trace s2 m) (one_is m (Code code.LclInstrm) LclInstrm refl "LclInstrm" "Cd" s2)
      ∙ (next_is (and_then a b) (trace s2 m) c (trace (end type_name) m) (child_once "SeqTp" (Code code.SeqTp) SeqTp (end type_name) m refl)
      ∙ then_each (and_then (and_then a b) c) (trace (end type_name) m) (end_of (end_tag type_name) m) (end_is m type_name)))

  pub type_is : (rest : Shape) (p : ℕ) → trace (group optional type_name (children payment_type (end type_name)) rest) m p ≡ and_then (type_of m p) (trace rest m)
  unfolding type_of
  type_is rest p = go (look (exactly (plain_tag type_name)) (drop (skipped m p) m))
    where
      q : ℕ
      q = skipped m p

      z : ℕ
      z = q + length (plain_tag type_name)

      inner : Trace
      inner = trace (children payment_type (end type_name)) m z

      go : (c : Look)
          → on_look c (met (there type_name at q) (and_then (and_then inner (ends optional)) (trace rest m))) (fault 3 (length m)) (met (absent type_name at q) (trace rest m q))
          ≡ and_then (on_look c (met (there type_name at q) (in_type_of m z)) (fault 3 (length m)) (met (absent type_name at q) (up_to q))) (trace rest m)
      go Whole = ap (λ (u : Trace). met (there type_name at q) (and_then u (trace rest m))) (may_ends inner ∙ in_type_is z)
      go Cut = refl
      go Other = refl

  -- ---- the direct debit
  mandate-is : (rest : Shape) (p : ℕ)
      → trace (group once "MndtRltdInf" (leaf once "MndtId" (Plain Reference) MndtId (leaf once "DtOfSgntr" (Plain Date) DtOfSgntr (end "MndtRltdInf"))) rest) m p
      ≡ and_then (mandate_of m p) (trace rest m)
  mandate-is rest p =
      let o = open_of (plain_tag "MndtRltdInf") m p in
      let a = leaf_of false (plain_tag "MndtId") (end_tag "MndtId") (Plain Reference) MndtId m in
      let b = leaf_of false (plain_tag "DtOfSgntr") (end_tag "DtOfSgntr") (Plain Date) DtOfSgntr m in
      let e = end "MndtRltdInf" in
      let s = leaf once "DtOfSgntr" (Plain Date) DtOfSgntr e in
      let i = leaf once "MndtId" (Plain Reference) MndtId s in
      group_is m "MndtRltdInf" i rest (trace i m) (λ z. refl) p
      ∙ ap (λ (u : Trace). and_then u (trace rest m))
      (next_is o (trace i m) a (trace s m) (child_once "MndtId" (Plain Reference) MndtId s m refl)
      ∙ (next_is (and_then o a) (trace s m) b (trace e m) (child_once "DtOfSgntr" (Plain Date) DtOfSgntr e m refl)
      ∙ then_each (and_then (and_then o a) b) (trace e m) (end_of (end_tag "MndtRltdInf") m) (end_is m "MndtRltdInf")))

  abbrev pub other_in : Shape
  other_in = leaf once "Id" (Plain Identifier) CdtrId (group once "SchmeNm" (leaf once "Prtry" (Code code.Prtry) Prtry (end "SchmeNm")) (end "Othr"))

  other-is : (rest : Shape) (p : ℕ) → trace (group once "Othr" other_in rest) m p ≡ and_then (other_of m p) (trace rest m)
  other-is rest p =
      let o = open_of (plain_tag "Othr") m p in
      let a = leaf_of false (plain_tag "Id") (end_tag "Id") (Plain Identifier) CdtrId m in
      let b = one_of (plain_tag "SchmeNm") (plain_tag "Prtry") (end_tag "Prtry") (end_tag "SchmeNm") (Code code.Prtry) Prtry m in
      let e = end "Othr" in
      let s = group once "SchmeNm" (leaf once "Prtry" (Code code.Prtry) Prtry (end "SchmeNm")) e in
      group_is m "Othr" other_in rest (trace other_in m) (λ z. refl) p
      ∙ ap (λ (u : Trace). and_then u (trace rest m))
      (next_is o (trace other_in m) a (trace s m) (child_once "Id" (Plain Identifier) CdtrId s m refl)
      ∙ (next_is (and_then o a) (trace s m) b (trace e m) (one_is m (Code code.Prtry) Prtry refl "SchmeNm" "Prtry" e)
      ∙ then_each (and_then (and_then o a) b) (trace e m) (end_of (end_tag "Othr") m) (end_is m "Othr")))

  -- a group around one child that is known
  around : (n : Shape → Shape) (t : ℕ → Trace) → ((rest : Shape) (p : ℕ) → trace (n rest) m p ≡ and_then (t p) (trace rest m)) → (s : String) (rest : Shape) (p : ℕ)
      → trace (group once s (n (end s)) rest) m p ≡ and_then (and_then (and_then (open_of (plain_tag s) m p) t) (end_of (end_tag s) m)) (trace rest m)
  around n t h s rest p =
      let o = open_of (plain_tag s) m p in
      group_is m s (n (end s)) rest (trace (n (end s)) m) (λ z. refl) p
      ∙ ap (λ (u : Trace). and_then u (trace rest m))
      (next_is o (trace (n (end s)) m) t (trace (end s) m) (h (end s)) ∙ then_each (and_then o t) (trace (end s) m) (end_of (end_tag s) m) (end_is m s))

  abbrev pub scheme_in : Shape → Shape
  scheme_in rest = group once "CdtrSchmeId" (group once "Id" (group once "PrvtId" (group once "Othr" other_in (end "PrvtId")) (end "Id")) (end "CdtrSchmeId")) rest

  scheme-is : (rest : Shape) (p : ℕ) → trace (scheme_in rest) m p ≡ and_then (scheme_of m p) (trace rest m)
  scheme-is =
      around (λ r. group once "Id" (group once "PrvtId" (group once "Othr" other_in (end "PrvtId")) (end "Id")) r) (own_of m)
      (around (λ r. group once "PrvtId" (group once "Othr" other_in (end "PrvtId")) r) (private_of m)
      (around (λ r. group once "Othr" other_in r) (other_of m) other-is "PrvtId") "Id") "CdtrSchmeId"

  pub debit_is : (rest : Shape) (p : ℕ)
      → trace (group once "DrctDbtTx" (group once "MndtRltdInf" (leaf once "MndtId" (Plain Reference) MndtId (leaf once "DtOfSgntr" (Plain Date) DtOfSgntr (end "MndtRltdInf")))
      (scheme_in (end "DrctDbtTx"))) rest) m p
      ≡ and_then (debit_of m p) (trace rest m)
  debit_is rest p =
      let o = open_of (plain_tag "DrctDbtTx") m p in
      let e = end "DrctDbtTx" in
      let s = scheme_in e in
      let i = group once "MndtRltdInf" (leaf once "MndtId" (Plain Reference) MndtId (leaf once "DtOfSgntr" (Plain Date) DtOfSgntr (end "MndtRltdInf"))) s in
      group_is m "DrctDbtTx" i rest (trace i m) (λ z. refl) p
      ∙ ap (λ (u : Trace). and_then u (trace rest m))
      (next_is o (trace i m) (mandate_of m) (trace s m) (mandate-is s)
      ∙ (next_is (and_then o (mandate_of m)) (trace s m) (scheme_of m) (trace e m) (scheme-is e)
      ∙ then_each (and_then (and_then o (mandate_of m)) (scheme_of m)) (trace e m) (end_of (end_tag "DrctDbtTx") m) (end_is m "DrctDbtTx")))
