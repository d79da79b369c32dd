-- Two messages that are the same but for one value, and two traces that are: the words for it; and what stands where a tag is due and a value lies.
use mathlib.Core.Path.{◌≡◌, ap, ◌∙◌}
use mathlib.Core.Bool.{Bool, true, false}
use mathlib.Core.List.{List, ◌∷◌, ◌++◌}
use Prim.Native.Nat.{ℕ, suc}
use Prim.Native.String.{String}
use borrow.Author.Tests.{not-true}
use native.Mathlib.Nat.{add-zero}
use lib.Dec.{eqb}
use lib.ListN.{length, drop}
use Rattle.text.specs.Truth.{every}
use Rattle.text.specs.Quoted.{equal}
use Rattle.tags.specs.declared.Look.TheVariants.{Whole, Other}
use Rattle.tags.specs.Tags.{white, skipped, look, exactly, end_tag, plain_tag, start_tag}
use Rattle.tags.specs.Values.{in_value}
use Rattle.profile.specs.declared.Kind.{Kind}
use Rattle.profile.specs.declared.Field.{Field}
use Rattle.profile.specs.Kinds.{is_amount}
use Rattle.profile.specs.Tree.{Occ, Shape, end, leaf, group}
use Rattle.reading.specs.Trace.{value, Entry, ◌at◌, Trace, met, fault, closed, leaf_body, group_body, missing, turn, follow, trace}
use Rattle.replaced.proofs.Alike.{Alike, shut}

-- two traces: the same, but that one value of which Fit holds, perhaps, is v in the one and w in the other
module _ (Fit : Kind → Field → Type 0) (v w : List ℕ) where
  pub data Beside : Trace → Trace → Type 0 where
    same : {t : Trace} → Beside t t
    here : {k : Kind} {f : Field} {q : ℕ} {t : Trace} → Fit k f → Beside (met (value k f v at q) t) (met (value k f w at q) t)
    past : {e : Entry} {t t' : Trace} → Beside t t' → Beside (met e t) (met e t')

-- a value that begins with a byte that is neither white space nor `<`
pub record Solid (v : List ℕ) : Type 0 where
  pub first : ℕ
  pub later : List ℕ
  pub is : v ≡ first ∷ later
  pub shown : white first ≡ false
  pub inside : in_value first ≡ true

-- a message and another: the same bytes, but for values v and w behind a start tag. `own` are the tests of that tag, `head` its bytes behind the `<`
pub record Swapped (m m' : List ℕ) : Type 0 where
  pub own : List (ℕ → Bool)
  pub head : List ℕ
  pub v : List ℕ
  pub w : List ℕ
  pub z : List ℕ
  pub lies : look own (60 ∷ head) ≡ Whole
  pub wide : length own ≡ suc (length head)
  pub firm : shut (drop 1 own) ≡ true
  pub tagless : every in_value v ≡ true
  pub tagless' : every in_value w ≡ true
  pub long : length v ≡ length w
  pub size : length m ≡ length m'
  pub alike : Alike (head ++ (v ++ (60 ∷ z))) (head ++ (w ++ (60 ∷ z))) false m m'

-- a tag that cannot be that one: `<` passes no test of it but the first, and it differs within both
abbrev pub Clear : List ℕ → List (ℕ → Bool) → Type 0
Clear head tag = (shut (drop 1 tag) ≡ true) × ((s : List ℕ) → look tag (60 ∷ (head ++ s)) ≡ Other)

-- ---- where a tag is due and a solid value stands: no tag lies there, and nothing more is read
abbrev pub stuck_at : Shape → ℕ → Trace
stuck_at (end n) q = fault 4 q
stuck_at (leaf o n k f rest) q = missing o n q (stuck_at rest q)
stuck_at (group o n inner rest) q = missing o n q (stuck_at rest q)

module _ (l : List ℕ) (q c : ℕ) (s : List ℕ) (here : drop q l ≡ c ∷ s) (shown : white c ≡ false) (inside : in_value c ≡ true) where
  skip-here : skipped l q ≡ q
  skip-here = rw (here, shown) (add-zero q)

  no_tag : (t : List (ℕ → Bool)) → look (equal 60 ∷ t) (drop q l) ≡ Other
  no_tag t = rw (here, not-true (eqb c 60) inside)

  no_start : (amount : Bool) (n : String) → look (start_tag amount n) (drop q l) ≡ Other
  no_start true n = no_tag (drop 1 (start_tag true n))
  no_start false n = no_tag (drop 1 (start_tag false n))

  turned : (o : Occ) (n : String) (tag : List (ℕ → Bool)) (body next rest : ℕ → Trace) → look tag (drop q l) ≡ Other → turn o n tag l body next rest q ≡ missing o n q (rest q)
  turned o n tag body next rest e = rw (skip-here, e)

  stuck-here : (sh : Shape) → trace sh l q ≡ stuck_at sh q
  unfolding closed
  stuck-here (end n) = rw (skip-here, no_tag (drop 1 (exactly (end_tag n))))
  stuck-here (leaf o n k f rest) =
      turned o n (start_tag (is_amount k) n) (leaf_body o n k f l) (follow o (length l) n (start_tag (is_amount k) n) l (leaf_body o n k f l) (trace rest l)) (trace rest l) (no_start (is_amount k) n)
      ∙ ap (missing o n q) (stuck-here rest)
  stuck-here (group o n inner rest) =
      turned o n (exactly (plain_tag n)) (group_body o n (trace inner l)) (follow o (length l) n (exactly (plain_tag n)) l (group_body o n (trace inner l)) (trace rest l)) (trace rest l)
      (no_tag (drop 1 (exactly (plain_tag n))))
      ∙ ap (missing o n q) (stuck-here rest)

pub stuck : (l : List ℕ) (q : ℕ) (v z : List ℕ) → drop q l ≡ v ++ z → Solid v → (sh : Shape) → trace sh l q ≡ stuck_at sh q
stuck l q v z h s = stuck-here l q s.first (s.later ++ z) (h ∙ ap (λ (x : List ℕ). x ++ z) s.is) s.shown s.inside
