-- Two documents have one plain form exactly where they agree: over any tree.
use mathlib.Core.Path.{◌≡◌, refl, sym, ap, ◌∙◌}
use mathlib.Core.List.{List, [], ◌∷◌, ◌++◌}
use Prim.Native.Nat.{ℕ}
use Prim.Native.String.{String}
use native.Mathlib.Omega.{arith}
use lib.ListN.{length}
use Rattle.text.proofs.Truths.{never}
use Rattle.profile.specs.Tree.{Occ, once, optional, many, more, Shape, end, leaf, group}
use Rattle.kinds.specs.Given.{kind_given}
use Rattle.kinds.specs.Meant.{as_meant, SameMeaning}
use Rattle.kinds.proofs.Meant.{meant_same, same_meant}
use Rattle.reading.specs.Trace.{What, item_begins, item_ends, there, value}
use Rattle.reading.specs.Rules.{own_kind}
use Rattle.documents.specs.Document.{Led, Row, Doc, Each}
use Rattle.documents.specs.Said.{one, each, none, said}
use Rattle.documents.specs.Holds.{Passes}
use Rattle.documents.proofs.Each.{each_first, each_rest}
use Rattle.forms.specs.Plain.{bare, plain}
use Rattle.forms.specs.Agree.{Along, Agree}
use Rattle.forms.proofs.Said.{bare_length}
use Rattle.forms.proofs.Holds.{passes_none}

-- ---- one plain form: they agree
module _ {A : Type 0} (f : A → A) (P : A → A → Type 0) (told : (a b : A) → f a ≡ f b → P a b) where
  abbrev held_or : A → List (Led A) → A
  held_or a [] = a
  held_or a (e ∷ l) = e.held

  abbrev behind : List (Led A) → List (Led A)
  behind [] = []
  behind (e ∷ l) = l

  bare-along : (l k : List (Led A)) → bare f l ≡ bare f k → Along P l k
  bare-along [] [] e = tt
  bare-along [] (y ∷ k) e = never (omega (arith, ap length e))
  bare-along (x ∷ l) [] e = never (omega (arith, ap length e))
  bare-along (x ∷ l) (y ∷ k) e = (told x.held y.held (ap (held_or x.held) e), bare-along l k (ap behind e))

pub plain_agree : (sh : Shape) (d e : Doc sh) → plain sh d ≡ plain sh e → Agree sh d e
plain_agree (end n) d e q = tt
plain_agree (leaf o n k f rest) d e q = (
  bare-along (as_meant k) (SameMeaning k) (meant_same k) d.all e.all (ap (λ (r : Row (List ℕ) (Doc rest)). r.all) q),
  plain_agree rest d.others e.others (ap (λ (r : Row (List ℕ) (Doc rest)). r.others) q),
)
plain_agree (group o n inner rest) d e q = (
  bare-along (plain inner) (Agree inner) (plain_agree inner) d.all e.all (ap (λ (r : Row (Doc inner) (Doc rest)). r.all) q),
  plain_agree rest d.others e.others (ap (λ (r : Row (Doc inner) (Doc rest)). r.others) q),
)

-- ---- they agree, and every value passes: one plain form
abbrev Passing : List What → Type 0
Passing = Each (λ w. Passes (own_kind w))

module _ {A : Type 0} (n : String) (t : A → List What) where
  passing-one : (o : Occ) (e : Led A) → Passing (one o n t e) → Passing (t e.held)
  passing-one once e h = h
  passing-one optional e h = h.1
  passing-one many e h = each_first (λ w. Passes (own_kind w)) (t e.held) (item_ends ∷ []) h.1
  passing-one more e h = each_first (λ w. Passes (own_kind w)) (t e.held) (item_ends ∷ []) h.1

  module _ (o : Occ) (f : A → A) (P : A → A → Type 0) (same : (a b : A) → Passing (t a) → Passing (t b) → P a b → f a ≡ f b) where
    along-bare : (l k : List (Led A)) → Passing (each o n t l) → Passing (each o n t k) → Along P l k → bare f l ≡ bare f k
    along-bare [] [] h g a = refl
    along-bare [] (y ∷ k) h g a = absurd a
    along-bare (x ∷ l) [] h g a = absurd a
    along-bare (x ∷ l) (y ∷ k) h g a =
        let p = each_first (λ w. Passes (own_kind w)) (one o n t x) (each o n t l) h in
        let q = each_first (λ w. Passes (own_kind w)) (one o n t y) (each o n t k) g in
        rw (
          same x.held y.held (passing-one o x p) (passing-one o y q) a.0,
          along-bare l k
              (each_rest (λ w. Passes (own_kind w)) (one o n t x) (each o n t l) h) (each_rest (λ w. Passes (own_kind w)) (one o n t y) (each o n t k) g) a.1,
        )

  -- what passes of a row, and of what comes after it
  passing-row : (o : Occ) (l : List (Led A)) (r : List What) → Passing (none o n l ++ (each o n t l ++ r)) → Passing (each o n t l) × Passing r
  passing-row o l r h =
      let k = each_rest (λ w. Passes (own_kind w)) (none o n l) (each o n t l ++ r) h in
      (each_first (λ w. Passes (own_kind w)) (each o n t l) r k, each_rest (λ w. Passes (own_kind w)) (each o n t l) r k)

pub agree_plain : (sh : Shape) (d e : Doc sh) → Passing (said sh d) → Passing (said sh e) → Agree sh d e → plain sh d ≡ plain sh e
agree_plain (end n) d e h g a = refl
agree_plain (leaf o n k f rest) d e h g a =
    let p = passing-row n (λ v. value k f v ∷ []) o d.all (said rest d.others) h in
    let q = passing-row n (λ v. value k f v ∷ []) o e.all (said rest e.others) g in
    rw (along-bare n (λ v. value k f v ∷ []) o (as_meant k) (SameMeaning k) same d.all e.all p.0 q.0 a.0, agree_plain rest d.others e.others p.1 q.1 a.1)
  where
    same : (v w : List ℕ) → Passing (value k f v ∷ []) → Passing (value k f w ∷ []) → SameMeaning k v w → as_meant k v ≡ as_meant k w
    same v w h g = same_meant k v w (passes_none (kind_given k v) h.0) (passes_none (kind_given k w) g.0)
agree_plain (group o n inner rest) d e h g a =
    let p = passing-row n (said inner) o d.all (said rest d.others) h in
    let q = passing-row n (said inner) o e.all (said rest e.others) g in
    rw (along-bare n (said inner) o (plain inner) (Agree inner) (agree_plain inner) d.all e.all p.0 q.0 a.0, agree_plain rest d.others e.others p.1 q.1 a.1)
