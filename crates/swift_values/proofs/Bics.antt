-- A BIC by its first eight bytes and its last eight.
use mathlib.Core.Path.{◌≡◌, refl}
use mathlib.Core.Bool.{Bool, true, false, not, ◌||◌}
use mathlib.Core.List.{List, [], ◌∷◌}
use mathlib.Core.Logic.{◌⊎◌, inl, inr}
use Prim.Native.Nat.{ℕ, ◌+◌, ◌-◌, ◌≤◌, ◌<◌}
use native.Mathlib.Omega.{arith}
use native.Mathlib.Decide.{dec_lt}
use borrow.Author.Tests.{ne_eqb, eq-eqb}
use lib.Dec.{T, eqb, leb}
use lib.ListN.{length, get_or}
use Rattle.text.specs.Truth.{part, every, either}
use Rattle.text.specs.Quoted.{among}
use Rattle.text.specs.Classes.{capital, capital_or_digit}
use Rattle.text.specs.Below.{below, below_at}
use Rattle.text.proofs.Truths.{pass, done}
use Rattle.text.proofs.Scan.{every_also}
use Rattle.answers.specs.Given.{yes as said}
use Rattle.accounts.specs.Bic.{bic_form, bic_given, bicfi_form, bicfi_given}
use Rattle.profile.specs.declared.Kind.TheVariants.{Plain}
use Rattle.tags.specs.Values.{in_value}
use Rattle.kinds.specs.Given.{simple_given}
use Rattle.swift_values.specs.Stands.{Stands}
use Rattle.swift_values.specs.Blocks.{All, AllAt}
use Rattle.swift_values.specs.Bics.{lowest, in_bic, bic_kind}
use Rattle.swift_values.proofs.Blocks.{high_onto}
use Rattle.swift_values.proofs.Lanes.{and_split}
use Rattle.swift_values.proofs.Parts.{part_listed, all_at, cap_in, stands_part}

-- ---- a byte that may stand at a place is of the class that is due there: computed for bytes, and above none may stand
abbrev implies : Bool → Bool → Bool
implies true b = b
implies false b = true

implied : (a b : Bool) → T (implies a b) → a ≡ true → b ≡ true
implied true true t e = refl
implied true false t e = absurd t
implied false b t e = absurd (let z : ◌≡◌ {A = ℕ} 0 1 = cc in omega arith)

cap_under : (c : ℕ) → capital_or_digit c ≡ true → c < 91
cap_under c h =
    elim (dec_lt c 65) [
      | yes l ↦ omega arith
      | no l ↦ omega (arith, (high_onto c h 0 (omega arith)).0)
    ]

module _ (w : Bool) (i : ℕ) where
  bic-cap : (c : ℕ) → in_bic w i c ≡ true → capital_or_digit c ≡ true
  bic-cap c e = (and_split (capital_or_digit c) (leb (lowest w i) c) e).0

  bic-class : (g : ℕ → Bool) → T (below 91 (λ c. implies (in_bic w i c) (g c))) → (c : ℕ) → in_bic w i c ≡ true → g c ≡ true
  bic-class g t c e = implied (in_bic w i c) (g c) (below_at 91 (λ x. implies (in_bic w i x) (g x)) t c (cap_under c (bic-cap c e))) e

-- ---- the first eight, and what is behind them
abbrev eight : List ℕ → ℕ → List ℕ → List ℕ
eight m p t =
    get_or m (p + 0) 0 ∷ get_or m (p + 1) 0 ∷ get_or m (p + 2) 0 ∷ get_or m (p + 3) 0 ∷ get_or m (p + 4) 0 ∷ get_or m (p + 5) 0 ∷ get_or m (p + 6) 0 ∷ get_or m (p + 7) 0 ∷ t

module _ (m : List ℕ) (p : ℕ) (t : List ℕ) where
  abbrev long : List ℕ → Bool
  long s = either (eqb (length s) 8) (eqb (length s) 11)

  cap-of : (w : Bool) → AllAt (in_bic w) m p 8 → (j : ℕ) → j < 8 → capital_or_digit (get_or m (p + j) 0) ≡ true
  cap-of w a j h = bic-cap w j (get_or m (p + j) 0) (a.each j h)

  -- the class that is due at a place
  due : (w : Bool) → AllAt (in_bic w) m p 8 → (j : ℕ) (g : ℕ → Bool) → j < 8 → T (below 91 (λ c. implies (in_bic w j c) (g c))) → g (get_or m (p + j) 0) ≡ true
  due w a j g h x = bic-class w j g x (get_or m (p + j) 0) (a.each j h)

  module _ (behind : every capital_or_digit t ≡ true) where
    eight-value : (w : Bool) → AllAt (in_bic w) m p 8 → every in_value (eight m p t) ≡ true
    eight-value w a =
        rw (is 0 (omega arith), is 1 (omega arith), is 2 (omega arith), is 3 (omega arith), is 4 (omega arith), is 5 (omega arith), is 6 (omega arith), is 7 (omega arith))
        (every_also capital_or_digit in_value cap_in t behind)
      where
        is : (j : ℕ) → j < 8 → in_value (get_or m (p + j) 0) ≡ true
        is j h = cap_in (get_or m (p + j) 0) (cap-of w a j h)

    six : AllAt (in_bic false) m p 8 → every capital (part 0 6 (eight m p t)) ≡ true
    unfolding capital capital_or_digit among
    six a = rw (is 0 (omega arith) tt, is 1 (omega arith) tt, is 2 (omega arith) tt, is 3 (omega arith) tt, is 4 (omega arith) tt, is 5 (omega arith) tt) refl
      where
        is : (j : ℕ) → j < 8 → T (below 91 (λ c. implies (in_bic false j c) (capital c))) → capital (get_or m (p + j) 0) ≡ true
        is j h x = due false a j capital h x

    seventh : AllAt (in_bic false) m p 8 → among "A-Z 2-9" (get_or m (p + 6) 0) ≡ true
    unfolding capital_or_digit among
    seventh a = due false a 6 (among "A-Z 2-9") (omega arith) tt

    or-o : AllAt (in_bic false) m p 8 → either (eqb (get_or m (p + 7) 0) 79) (among "A-N P-Z 0-9" (get_or m (p + 7) 0)) ≡ true
    unfolding capital_or_digit among
    or-o a = due false a 7 (λ c. either (eqb c 79) (among "A-N P-Z 0-9" c)) (omega arith) tt

    eighth : AllAt (in_bic false) m p 8 → (get_or m (p + 7) 0 ≡ 79 → ⊥) → among "A-N P-Z 0-9" (get_or m (p + 7) 0) ≡ true
    eighth a ne = but (ne_eqb (get_or m (p + 7) 0) 79 ne) (or-o a)
      where
        but : {b c : Bool} → b ≡ false → either b c ≡ true → c ≡ true
        but e h = rw e at h

    fifth : AllAt (in_bic true) m p 8 → every capital (part 4 2 (eight m p t)) ≡ true
    unfolding capital capital_or_digit among
    fifth a = rw (due true a 4 capital (omega arith) tt, due true a 5 capital (omega arith) tt) refl

    given-of : (w : Bool) → AllAt (in_bic w) m p 8 → (w ≡ false → get_or m (p + 7) 0 ≡ 79 → ⊥) → long (eight m p t) ≡ true → simple_given (bic_kind w) (eight m p t) ≡ said
    unfolding simple_given bic_given bic_form bicfi_given bicfi_form
    given-of false a ne l = rw (pass _ _ _ l (pass _ _ _ (six a) (pass _ _ _ (seventh a) (pass _ _ _ (eighth a (ne refl)) (pass _ _ _ behind done))))) refl
    given-of true a ne l = rw (pass _ _ _ l (pass _ _ _ first (pass _ _ _ (fifth a) (pass _ _ _ rest done)))) refl
      where
        is : (j : ℕ) → j < 8 → capital_or_digit (get_or m (p + j) 0) ≡ true
        is j h = cap-of true a j h

        first : every capital_or_digit (part 0 4 (eight m p t)) ≡ true
        first = rw (is 0 (omega arith), is 1 (omega arith), is 2 (omega arith), is 3 (omega arith)) refl

        rest : every capital_or_digit (get_or m (p + 6) 0 ∷ get_or m (p + 7) 0 ∷ t) ≡ true
        rest = rw (is 6 (omega arith), is 7 (omega arith)) behind

-- ---- the whole
module _ (w : Bool) (m : List ℕ) (p : ℕ) (begun : 0 < p) (fits : p + 12 ≤ length m) (a : AllAt (in_bic w) m p 8) (ne : w ≡ false → get_or m (p + 7) 0 ≡ 79 → ⊥) where
  eight-stands : get_or m (p + 8) 0 ≡ 60 → Stands (bic_kind w) m p (p + 8)
  eight-stands h =
      let e : part p 8 m ≡ eight m p [] = part_listed m p 8 (omega arith) in
      stands_part (Plain (bic_kind w)) said m p 8 begun (omega arith) (rw e (eight-value m p [] refl w a)) h (rw e (given-of m p [] refl w a ne refl))

  eleven-stands : All capital_or_digit m (p + 11 - 8) 8 → get_or m (p + 11) 0 ≡ 60 → Stands (bic_kind w) m p (p + 11)
  eleven-stands c h =
      let t = get_or m (p + 8) 0 ∷ get_or m (p + 9) 0 ∷ get_or m (p + 10) 0 ∷ [] in
      let e : part p 11 m ≡ eight m p (get_or m (p + 8) 0 ∷ get_or m (p + 9) 0 ∷ get_or m (p + 10) 0 ∷ []) = part_listed m p 11 (omega arith) in
      let c8 = all_at capital_or_digit m (p + 11 - 8) 8 5 (p + 8) c (omega arith) (omega arith) in
      let c9 = all_at capital_or_digit m (p + 11 - 8) 8 6 (p + 9) c (omega arith) (omega arith) in
      let c10 = all_at capital_or_digit m (p + 11 - 8) 8 7 (p + 10) c (omega arith) (omega arith) in
      let b : every capital_or_digit (get_or m (p + 8) 0 ∷ get_or m (p + 9) 0 ∷ get_or m (p + 10) 0 ∷ []) ≡ true = rw (c8, c9, c10) refl in
      stands_part (Plain (bic_kind w)) said m p 11 begun (omega arith) (rw e (eight-value m p t b w a)) h (rw e (given-of m p t b w a ne refl))

  pub bic_stands : (n : ℕ) → (n ≡ 8) ⊎ (n ≡ 11) → All capital_or_digit m (p + n - 8) 8 → get_or m (p + n) 0 ≡ 60 → Stands (bic_kind w) m p (p + n)
  bic_stands n (inl e) c h = rw e (eight-stands (rw e at h))
  bic_stands n (inr e) c h = rw e (eleven-stands (rw e at c) (rw e at h))

pub bic_length_most : (n : ℕ) → (n ≡ 8) ⊎ (n ≡ 11) → (8 ≤ n) × (n ≤ 11)
bic_length_most n (inl e) = (omega arith, omega arith)
bic_length_most n (inr e) = (omega arith, omega arith)

pub eighth_no : (w : Bool) (c : ℕ) → (w || not (eqb c 79)) ≡ true → w ≡ false → c ≡ 79 → ⊥
eighth_no true c h e k = absurd (let z : ◌≡◌ {A = ℕ} 0 1 = cc in omega arith)
eighth_no false c h e k = absurd (let z : ◌≡◌ {A = ℕ} 0 1 = let y : not true ≡ true = rw (eq-eqb c 79 k) at h in cc in omega arith)
