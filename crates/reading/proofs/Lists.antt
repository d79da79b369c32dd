-- What stands in two lists, one behind the other.
use mathlib.Core.Path.{◌≡◌, refl, sym, ap, ◌∙◌}
use mathlib.Core.Bool.{Bool, true, false}
use mathlib.Core.List.{List, [], ◌∷◌, ◌++◌, append-nil, append_assoc}
use Prim.Native.Nat.{ℕ, suc, ◌+◌}
use native.Mathlib.Omega.{arith}
use borrow.Author.Tests.{eqb-true, eq-eqb}
use lib.Dec.{eqb}
use Rattle.text.specs.Truth.{both}
use Rattle.text.specs.Quoted.{alike}
use Rattle.money.specs.Amount.{cents}
use Rattle.profile.specs.declared.Kind.{Kind}
use Rattle.profile.specs.declared.Kind.TheVariants.{Amount}
use Rattle.profile.specs.declared.Field.{Field}
use Rattle.reading.specs.Trace.{What, Entry}
use Rattle.reading.specs.Rules.{begun, items_in, gathered, of_kind, values_of, of_field, values_at, of_type, types_in, sum_of, cents_in}
use Rattle.reading.specs.Judged.{whats, last_of, place_in, place_from}

pub whats_append : (a b : List Entry) → whats (a ++ b) ≡ whats a ++ whats b
whats_append [] b = refl
whats_append (e ∷ a) b = ap (λ (l : List What). e.what ∷ l) (whats_append a b)

pub items_append : (a b : List What) → items_in (a ++ b) ≡ items_in a + items_in b
items_append [] b = omega arith
items_append (w ∷ a) b = omega (arith, items_append a b)

pub gathered_append : {A : Type 0} (f : What → List A) (a b : List What) → gathered f (a ++ b) ≡ gathered f a ++ gathered f b
gathered_append f [] b = refl
gathered_append {A} f (w ∷ a) b = ap (λ (l : List A). f w ++ l) (gathered_append f a b) ∙ sym (append_assoc (f w) (gathered f a) (gathered f b))

pub values_append : (k : Kind) (a b : List What) → values_of k (a ++ b) ≡ values_of k a ++ values_of k b
values_append k = gathered_append (of_kind k)

pub at_append : (f : Field) (a b : List What) → values_at f (a ++ b) ≡ values_at f a ++ values_at f b
at_append f = gathered_append (of_field f)

pub types_append : (a b : List What) → types_in (a ++ b) ≡ types_in a ++ types_in b
types_append = gathered_append of_type

pub sum_append : (a b : List (List ℕ)) → sum_of (a ++ b) ≡ sum_of a + sum_of b
sum_append [] b = omega arith
sum_append (v ∷ a) b = omega (arith, sum_append a b)

pub cents_append : (a b : List What) → cents_in (a ++ b) ≡ cents_in a + cents_in b
cents_append a b = ap sum_of (values_append Amount a b) ∙ sum_append (values_of Amount a) (values_of Amount b)

pub place_append : (k : Kind) (a b : List Entry) (q : ℕ) → place_from q k (a ++ b) ≡ place_from (place_from q k a) k b
place_append k [] b q = refl
place_append k (e ∷ a) b q = place_append k a b (place_in (of_kind k e.what) e.place q)

-- ---- one more
pub last_more : (d : List ℕ) (l : List (List ℕ)) (v : List ℕ) → last_of d (l ++ (v ∷ [])) ≡ v
last_more d [] v = refl
last_more d (w ∷ l) v = last_more w l v

-- ---- the same bytes
pub alike_itself : (v : List ℕ) → alike v v ≡ true
alike_itself [] = refl
alike_itself (c ∷ v) = rw (eq-eqb c c refl) (alike_itself v)

pub alike_same : (t s : List ℕ) → alike t s ≡ true → t ≡ s
alike_same [] [] e = refl
alike_same [] (c ∷ s) e = cc
alike_same (d ∷ t) [] e = cc
alike_same (d ∷ t) (c ∷ s) e = go (eqb c d) refl (alike_same t s) e
  where
    go : (b : Bool) → eqb c d ≡ b → (alike t s ≡ true → t ≡ s) → both b (alike t s) ≡ true → d ∷ t ≡ c ∷ s
    go true z h e = rw (eqb-true c d z, h e)
    go false z h e = cc
