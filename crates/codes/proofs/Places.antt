-- The place of the first code that a value is, told by the library's search of a slice of codes.
use mathlib.Core.Path.{◌≡◌, refl, ap, ◌∙◌}
use mathlib.Core.Bool.{Bool, true, false, cond}
use mathlib.Core.List.{List, [], ◌∷◌, map}
use Prim.Native.Nat.{ℕ, suc}
use Prim.Native.String.{String}
use native.Mathlib.Numerals.{add-one}
use lib.Dec.{eqb}
use lib.Pointwise.{pointwise}
use denote.Ref.{Bor}
use Rattle.std.specs.Prelude.{Option, Some, None, Result}
use Rattle.std.specs.Option.{ok_or}
use Rattle.std.specs.List.{position_from}
use Rattle.text.specs.Quoted.{bytes, alike, is}
use Rattle.text.proofs.Chains.{alike_pointwise}
use Rattle.answers.specs.declared.Refusal.{Refusal}
use Rattle.answers.specs.declared.Refusal.TheVariants.{Unlisted}
use Rattle.answers.specs.Given.{Given, worth, refused, given_worth}
use Rattle.codes.specs.Listed.{or_else, place}

-- a code of the slice is the value
abbrev pub meets : List ℕ → Bor (List ℕ) → Bool
meets s t = pointwise eqb t.now s

abbrev pub told : Option ℕ → Given
told (Some n) = worth n
told None = refused 10

-- the place, or why it is refused, tells the same
pub told_as : (o : Option ℕ) (g : Result ℕ Refusal) → ok_or o Unlisted ≡ g → told o ≡ given_worth g
told_as None g e = ap given_worth e
told_as (Some n) g e = ap given_worth e

one : (b : Bool) (i : ℕ) (o : Option ℕ) (g : Given) → told o ≡ g → told (cond b (Some i) o) ≡ or_else b i g
one true i o g e = refl
one false i o g e = e

pub listed : (s : List ℕ) (i : ℕ) (l : List (Bor (List ℕ))) (ts : List String) → map (λ t. t.now) l ≡ map bytes ts → told (position_from (meets s) i l) ≡ place i ts s
listed s i [] [] e = refl
listed s i [] (t ∷ ts) e = cc
listed s i (x ∷ l) [] e = cc
listed s i (x ∷ l) (t ∷ ts) e =
    let h : x.now ≡ bytes t = cc in
    let g : map (λ t. t.now) l ≡ map bytes ts = cc in
    let k : meets s x ≡ is t s = alike_pointwise x.now s ∙ ap (λ w. alike w s) h in
    rw (k, add-one i) (one (is t s) i _ _ (listed s (suc i) l ts g))
