-- How tests lie at the beginning of a text: what a loop over them reads, and what two lists of tests, one behind the other, say.
use mathlib.Core.Path.{◌≡◌, refl, sym, ap}
use mathlib.Core.Bool.{Bool, true, false, ◌&&◌}
use mathlib.Core.List.{List, [], ◌∷◌, ◌++◌}
use Prim.Native.Nat.{ℕ, zero, suc, ◌+◌, ◌≤◌, ◌<◌}
use native.Mathlib.Numerals.{add-one}
use native.Mathlib.Omega.{arith}
use borrow.Author.Tests.{eq-eqb, ne_eqb, eqb-true, eqb-false}
use lib.Dec.{eqb}
use Rattle.std.specs.List.{starts_with}
use lib.ListN.{length, drop, get_or, drop_of_length-le}
use lib.Seq.{drop-cons}
use Rattle.text.specs.Truth.{pick}
use Rattle.text.proofs.Scan.{next}
use Rattle.tags.specs.declared.Look.{Look}
use Rattle.tags.specs.declared.Look.TheVariants.{Whole, Cut, Other}
use Rattle.text.specs.Classes.{capital}
use Rattle.text.proofs.Truths.{never}
use Rattle.tags.specs.Tags.{look, on_look, exactly, currency}

-- ---- the tests of a text
pub exactly_length : (t : List ℕ) → length (exactly t) ≡ length t
exactly_length [] = refl
exactly_length (d ∷ t) = ap suc (exactly_length t)

-- ---- test i, and byte i
module _ (d : ℕ → Bool) (t : List (ℕ → Bool)) (s : List ℕ) (i : ℕ) where
  pub look_cut : i < length t → length s ≤ i → look (drop i t) (drop i s) ≡ Cut
  look_cut h g = rw (drop-cons t i d h, drop_of_length-le s g)

  pub look_go : i < length t → i < length s → get_or t i d (get_or s i 0) ≡ true → look (drop i t) (drop i s) ≡ look (drop (i + 1) t) (drop (i + 1) s)
  look_go h g e = rw (drop-cons t i d h, next s i g, e, add-one)

-- ---- what lies there whole is no longer than the text
pub look_fits : (t : List (ℕ → Bool)) (s : List ℕ) → look t s ≡ Whole → length t ≤ length s
look_fits [] s e = omega arith
look_fits (f ∷ t) [] e = never (cc)
look_fits (f ∷ t) (c ∷ s) e = go (f c) e (look_fits t s)
  where
    go : (b : Bool) → pick b (look t s) Other ≡ Whole → (look t s ≡ Whole → length t ≤ length s) → suc (length t) ≤ suc (length s)
    go true h k = omega (arith, k h)
    go false h k = never (cc)

pub text_fits : (t s : List ℕ) → look (exactly t) s ≡ Whole → length t ≤ length s
text_fits t s e = omega (arith, exactly_length t, look_fits (exactly t) s e)

-- ---- a text lies whole before anything, and what lies whole is the text
pub look_text : (t s : List ℕ) → look (exactly t) (t ++ s) ≡ Whole
look_text [] s = refl
look_text (c ∷ t) s = rw (eq-eqb c c refl) (look_text t s)

pub whole_text : (t s : List ℕ) → look (exactly t) s ≡ Whole → s ≡ t ++ drop (length t) s
whole_text [] s e = refl
whole_text (d ∷ t) [] e = never (cc)
whole_text (d ∷ t) (c ∷ s) e = go (eqb c d) refl e (whole_text t s)
  where
    go : (b : Bool) → eqb c d ≡ b → pick b (look (exactly t) s) Other ≡ Whole → (look (exactly t) s ≡ Whole → s ≡ t ++ drop (length t) s)
        → c ∷ s ≡ d ∷ t ++ drop (length t) s
    go true q e k = let z : c ≡ d = eqb-true c d q in let y : s ≡ t ++ drop (length t) s = k e in cc
    go false q e k = never (cc)

-- ---- what differs within a text differs before anything
abbrev pub is_other : Look → Bool
is_other Whole = false
is_other Cut = false
is_other Other = true

pub other_before : (t : List (ℕ → Bool)) (s z : List ℕ) → is_other (look t s) ≡ true → look t (s ++ z) ≡ Other
other_before [] s z e = absurd (let n : ◌≡◌ {A = ℕ} 0 1 = cc in omega arith)
other_before (f ∷ t) [] z e = absurd (let n : ◌≡◌ {A = ℕ} 0 1 = cc in omega arith)
other_before (f ∷ t) (c ∷ s) z e = go (f c) e (other_before t s z)
  where
    go : (b : Bool) → is_other (pick b (look t s) Other) ≡ true → (is_other (look t s) ≡ true → look t (s ++ z) ≡ Other) → pick b (look t (s ++ z)) Other ≡ Other
    go true h k = k h
    go false h k = refl

-- ---- how tests lie behind others
abbrev pub and_then : Look → Look → Look
and_then Whole l = l
and_then Cut l = Cut
and_then Other l = Other

pub look_append : (t u : List (ℕ → Bool)) (s : List ℕ) → look (t ++ u) s ≡ and_then (look t s) (look u (drop (length t) s))
look_append [] u s = refl
look_append (f ∷ t) u [] = refl
look_append (f ∷ t) u (c ∷ s) = go (f c) (look_append t u s)
  where
    go : (b : Bool) → look (t ++ u) s ≡ and_then (look t s) (look u (drop (length t) s))
        → pick b (look (t ++ u) s) Other ≡ and_then (pick b (look t s) Other) (look u (drop (length t) s))
    go true h = h
    go false h = refl

-- ---- the other tests of a currency
pub capitals : (i : ℕ) → (i ≡ 3 → ⊥) → (i ≡ 4 → ⊥) → get_or currency i capital ≡ capital
capitals zero h g = refl
capitals (suc zero) h g = refl
capitals (suc (suc zero)) h g = refl
capitals (suc (suc (suc zero))) h g = absurd (h refl)
capitals (suc (suc (suc (suc zero)))) h g = absurd (g refl)
capitals (suc (suc (suc (suc (suc i))))) h g = refl

-- ---- how a text lies, as `starts_with` says it: of the text at the beginning of s, and of s at the beginning of the text
abbrev pub as_asked : Bool → Bool → Look
as_asked true b = Whole
as_asked false true = Cut
as_asked false false = Other

pub look_asked : (t s : List ℕ) → as_asked (starts_with eqb s t) (starts_with eqb t s) ≡ look (exactly t) s
look_asked [] s = refl
look_asked (d ∷ t) [] = refl
look_asked (d ∷ t) (c ∷ s) = go (eqb c d) refl (look_asked t s)
  where
    go : (b : Bool) → eqb c d ≡ b → as_asked (starts_with eqb s t) (starts_with eqb t s) ≡ look (exactly t) s
        → as_asked (eqb d c && starts_with eqb s t) (eqb c d && starts_with eqb t s) ≡ pick b (look (exactly t) s) Other
    go true e h = rw (e, eq-eqb d c (sym (eqb-true c d e))) h
    go false e h = rw (e, ne_eqb d c (λ x. eqb-false c d e (sym x)))

-- whether it lies there whole
pub whole_asked : (t s : List ℕ) → starts_with eqb s t ≡ on_look (look (exactly t) s) true false false
whole_asked t s = rw (sym (look_asked t s)) (go (starts_with eqb s t) (starts_with eqb t s))
  where
    go : (a b : Bool) → a ≡ on_look (as_asked a b) true false false
    go true b = refl
    go false true = refl
    go false false = refl
