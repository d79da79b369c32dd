-- Within an item, and within the header, no item begins or ends, and each value lies as it was read.
use mathlib.Core.Path.{◌≡◌, refl}
use mathlib.Core.Bool.{Bool, true, false}
use mathlib.Core.List.{List}
use Prim.Native.Nat.{ℕ, ◌+◌, ◌≤◌}
use Prim.Native.String.{String}
use native.Mathlib.Omega.{arith}
use lib.ListN.{length, length-append}
use Rattle.text.specs.Truth.{both}
use Rattle.text.proofs.Truths.{both_true}
use Rattle.tags.specs.Tags.{exactly, amount_tag, currency, start_tag}
use Rattle.profile.specs.declared.Version.{Version}
use Rattle.profile.specs.declared.Version.TheVariants.{V02, V08}
use Rattle.profile.specs.Kinds.{is_amount}
use Rattle.profile.specs.Tree.{Occ, once, optional, many, more, Shape, end, leaf, group}
use Rattle.profile.specs.Profile.{in_header, in_item}
use Rattle.reading.specs.Trace.{Entry, Trace, met, up_to, fault, begins, ends, trace}
use Rattle.reading.proofs.Flat.{never, flat}
use Rattle.reading.proofs.Each.{All, Comes, trace_all}
use Rattle.items.specs.Chain.{LiesAt, AllLie}

-- ---- no element that comes again
abbrev Single : Occ → Type 0
Single once = Unit {0}
Single optional = Unit {0}
Single many = ⊥
Single more = ⊥

abbrev singly : Occ → Bool
singly once = true
singly optional = true
singly many = false
singly more = false

abbrev pub singles : Shape → Bool
singles (end n) = true
singles (leaf o n k f rest) = both (singly o) (singles rest)
singles (group o n inner rest) = both (singly o) (both (singles inner) (singles rest))

single : (o : Occ) → singly o ≡ true → Single o
single once e = tt
single optional e = tt
single many e = never (cc)
single more e = never (cc)

all_single : (sh : Shape) → singles sh ≡ true → Comes Single (λ k f n. Unit {0}) sh
all_single (end n) e = tt
all_single (leaf o n k f rest) e =
    let h = both_true (singly o) (singles rest) e in
    (single o h.0, tt, all_single rest h.1)
all_single (group o n inner rest) e =
    let h = both_true (singly o) (both (singles inner) (singles rest)) e in
    let g = both_true (singles inner) (singles rest) h.1 in
    (single o h.0, all_single inner g.0, all_single rest g.1)

-- ---- what lies behind a start tag
pub behind_tag_lem : (b : Bool) (n : String) (p q : ℕ) → q ≡ p + length (start_tag b n) → 1 ≤ q
behind_tag_lem true n p q e = omega (arith, e, length-append (exactly (amount_tag n)) currency)
behind_tag_lem false n p q e = omega (arith, e)

-- ---- then each lies there
module _ (m : List ℕ) where
  abbrev Lying : Entry → Type 0
  Lying e = LiesAt m e.what e.place

  begin : (o : Occ) → Single o → (n : String) (q : ℕ) (t : Trace) → All Lying t → All Lying (begins o n q t)
  begin once a n q t h = h
  begin optional a n q t h = (tt, h)
  begin many a n q t h = absurd a
  begin more a n q t h = absurd a

  finish : (o : Occ) → Single o → (q : ℕ) → All Lying (ends o q)
  finish once a q = tt
  finish optional a q = tt
  finish many a q = absurd a
  finish more a q = absurd a

  lying : (t : Trace) → All Lying t → AllLie m (flat t)
  lying (met e t) h = (h.0, lying t h.1)
  lying (up_to p) h = tt
  lying (fault n q) h = tt

  all_lie : (sh : Shape) → singles sh ≡ true → (p : ℕ) → AllLie m (flat (trace sh m p))
  all_lie sh e p = lying (trace sh m p) (trace_all m Lying Single (λ k f n. Unit {0}) (λ n k f b p q e w h. (refl, behind_tag_lem (is_amount k) n p q e)) begin (λ n q. tt) finish sh (all_single sh e) p)

  item-singles : (v : Version) → singles (in_item v) ≡ true
  unfolding in_item
  item-singles V02 = refl
  item-singles V08 = refl

  header-singles : (v : Version) → singles (in_header v) ≡ true
  unfolding in_header
  header-singles V02 = refl
  header-singles V08 = refl

  pub item_lies : (v : Version) (p : ℕ) → AllLie m (flat (trace (in_item v) m p))
  item_lies v = all_lie (in_item v) (item-singles v)

  pub header_lies : (v : Version) (p : ℕ) → AllLie m (flat (trace (in_header v) m p))
  header_lies v = all_lie (in_header v) (header-singles v)
