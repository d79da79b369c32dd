-- The texts of the runs in their table; and what is kept of the runs: each way of spelling one.
use Rattle.std.proofs.Common.{◌≡◌, ℕ, ◌+◌, ◌*◌, ◌<◌, Bool, T, eqb, ltb, leb, List, [], ◌∷◌, length, get_or, refl, ltb-true, eqb-true, leb-true}
use Rattle.text.specs.Truth.{both, part}
use Rattle.text.specs.Quoted.{alike}
use Rattle.text.specs.Below.{below, passed, below_at, both_left, both_right}
use Rattle.swift_values.proofs.Values.{found_at}
use Rattle.straight.specs.Due.{Past}
use Rattle.straight.specs.Spelled.{Spelled}
use Rattle.straight.specs.Runs.{text_at, Texts}
use Rattle.straight.specs.declared.before.Spelling.{Spelling}
use Rattle.straight.specs.Kept.{SpelledAs}
use Rattle.straight.proofs.Spelled.{spelled_again}

-- ---- the texts: one computed test of each row
alike_same : (t s : List ℕ) → T (alike t s) → t ≡ s
alike_same [] [] h = refl
alike_same [] (c ∷ s) h = absurd h
alike_same (d ∷ t) [] h = absurd h
alike_same (d ∷ t) (c ∷ s) h =
    let e : c ≡ d = eqb-true c d (passed (eqb c d) (both_left (eqb c d) (alike t s) h)) in
    rw (e, alike_same t s (both_right (eqb c d) (alike t s) h)) refl

abbrev size_at : List ℕ → ℕ → ℕ
size_at t j = get_or t (96 * j + 80) 0

abbrev fits : List ℕ → ℕ → Bool
fits t j = both (ltb 0 (size_at t j)) (leb (size_at t j) 80)

abbrev pub row_right : List ℕ → ℕ → Bool
row_right t j = both (fits t j) (alike (part (96 * j) (size_at t j) t) (text_at j))

pub texts_tested : (t : List ℕ) → length t ≡ 2784 → T (below 29 (row_right t)) → Texts t
texts_tested t l h = record {
  long = l;
  some = λ j g. ltb-true 0 (size_at t j) (passed _ (both_left (ltb 0 (size_at t j)) (leb (size_at t j) 80) (size j g)));
  short = λ j g. leb-true (size_at t j) 80 (passed _ (both_right (ltb 0 (size_at t j)) (leb (size_at t j) 80) (size j g)));
  each = λ j g. alike_same (part (96 * j) (size_at t j) t) (text_at j) (both_right (fits t j) (alike (part (96 * j) (size_at t j) t) (text_at j)) (row j g));
}
  where
    row : (j : ℕ) → j < 29 → T (row_right t j)
    row j g = below_at 29 (row_right t) h j g

    size : (j : ℕ) → j < 29 → T (fits t j)
    size j g = both_left (fits t j) (alike (part (96 * j) (size_at t j) t) (text_at j)) (row j g)

-- as it was spelled before
pub run_again : (m : List ℕ) (p j r : ℕ) (s : Spelling) → SpelledAs m j s → 0 < s.length → Past m p (part s.place s.length m) r → Spelled m p (text_at j) r
run_again m p j r s k z f = spelled_again m p (text_at j) s.place s.length r (found_at (λ x. Spelled m s.place (text_at j) (s.place + x)) s.length z k) f
