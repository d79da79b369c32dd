-- What stands once in each payment type: once in all where the header has it, and else once in every item.
use mathlib.Core.Path.{◌≡◌, refl, ap, ◌∙◌}
use mathlib.Core.Bool.{Bool, true, false}
use mathlib.Core.List.{List, [], ◌∷◌, ◌++◌}
use Prim.Native.Nat.{ℕ, zero, suc, ◌+◌}
use Prim.Native.String.{String}
use native.Mathlib.Omega.{arith}
use lib.ListN.{replicate}
use Rattle.text.specs.Truth.{pick}
use Rattle.profile.specs.declared.Kind.{Kind}
use Rattle.profile.specs.declared.Field.{Field}
use Rattle.profile.specs.declared.Version.{Version}
use Rattle.profile.specs.Tree.{Shape}
use Rattle.profile.specs.Profile.{is_type, profile}
use Rattle.reading.specs.Trace.{What, item_begins, item_ends, there, absent, value}
use Rattle.reading.specs.Rules.{items_in, types_in}
use Rattle.documents.specs.Document.{Doc, Proper}
use Rattle.documents.specs.Said.{said}
use Rattle.documents.specs.Holds.{TypeStands, in_header, in_items}
use Rattle.documents.proofs.Often.{Weighing, weight, times, even, fixed, balance, as_often, any_item, weight_items}

-- how many places have none
abbrev pub lacking : List Bool → ℕ
lacking [] = 0
lacking (true ∷ l) = lacking l
lacking (false ∷ l) = suc (lacking l)

pub lacking_append : (a b : List Bool) → lacking (a ++ b) ≡ lacking a + lacking b
lacking_append [] b = omega arith
lacking_append (true ∷ a) b = omega (arith, lacking_append a b)
lacking_append (false ∷ a) b = omega (arith, lacking_append a b)

pub lacking_all : (n : ℕ) → lacking (replicate n false) ≡ n
lacking_all zero = refl
lacking_all (suc n) = omega (arith, lacking_all n)

pub lacking_none : (n : ℕ) → lacking (replicate n true) ≡ 0
lacking_none zero = refl
lacking_none (suc n) = lacking_none n

-- ---- values alone, and values with an absent payment type counted as one
module _ (g : Kind → Field → ℕ) where
  abbrev pub values : Weighing
  values = record { by_field = g; an_item = 0; mark = λ b n. 0 }

  abbrev pub or_absent : Weighing
  or_absent = record { by_field = g; an_item = 0; mark = λ b n. pick b 0 (pick (is_type n) 1 0) }

  pub with_lacking : (ws : List What) → weight or_absent ws ≡ weight values ws + lacking (types_in ws)
  with_lacking [] = refl
  with_lacking (item_begins ∷ l) = omega (arith, with_lacking l)
  with_lacking (item_ends ∷ l) = omega (arith, with_lacking l)
  with_lacking (there n ∷ l) = go (is_type n) (with_lacking l)
    where
      go : (b : Bool) → weight or_absent l ≡ weight values l + lacking (types_in l) → 0 + weight or_absent l ≡ (0 + weight values l) + lacking (pick b (true ∷ []) [] ++ types_in l)
      go true e = omega (arith, e)
      go false e = omega (arith, e)
  with_lacking (absent n ∷ l) = go (is_type n) (with_lacking l)
    where
      go : (b : Bool) → weight or_absent l ≡ weight values l + lacking (types_in l)
          → pick b 1 0 + weight or_absent l ≡ (0 + weight values l) + lacking (pick b (false ∷ []) [] ++ types_in l)
      go true e = omega (arith, e)
      go false e = omega (arith, e)
  with_lacking (value k f v ∷ l) = omega (arith, with_lacking l)

  -- what the tree must show: one in each place where the payment type may stand, and elsewhere none
  pub record InType (v : Version) : Type 0 where
    pub level : even or_absent any_item (profile v) ≡ true
    pub twice : times or_absent (profile v) ≡ 2
    pub item : times any_item (profile v) ≡ 1

  module _ (v : Version) (t : InType v) (d : Doc (profile v)) (pr : Proper (profile v) d) where
    pub in_type : weight values (said (profile v) d) + lacking (types_in (said (profile v) d)) ≡ suc (items_in (said (profile v) d))
    in_type =
        let ws = said (profile v) d in
        omega (arith, with_lacking ws, balance or_absent any_item (profile v) t.level d pr, t.twice, t.item, weight_items ws)

    -- once where the header has the payment type
    pub once_above : types_in (said (profile v) d) ≡ true ∷ replicate (items_in (said (profile v) d)) false → weight values (said (profile v) d) ≡ 1
    once_above e = let n = items_in (said (profile v) d) in omega (arith, in_type, ap lacking e, lacking_all n)

    -- and else as often as there are items
    pub once_each : types_in (said (profile v) d) ≡ false ∷ replicate (items_in (said (profile v) d)) true → weight values (said (profile v) d) ≡ items_in (said (profile v) d)
    once_each e = let n = items_in (said (profile v) d) in omega (arith, in_type, ap lacking e, lacking_none n)

  -- in a header, or in an item, once or not at all
  pub once_or_lacking : (sh : Shape) → fixed or_absent sh ≡ true → times or_absent sh ≡ 1 → (d : Doc sh) → Proper sh d → weight values (said sh d) + lacking (types_in (said sh d)) ≡ 1
  once_or_lacking sh e f d pr = omega (arith, with_lacking (said sh d), as_often or_absent sh e d pr, f)
