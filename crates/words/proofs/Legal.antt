-- Laws of legal values: which bytes they hold, that judging a value or its collapsed one is the same, and that what was legal before request 4 still is.
use mathlib.Core.Path.{◌≡◌, refl, ap, sym, ◌∙◌}
use mathlib.Core.Bool.{Bool, true, false, not}
use mathlib.Core.List.{List, [], ◌∷◌, map}
use Prim.Native.Nat.{ℕ, ◌≤◌, ◌<◌}
use native.Mathlib.Omega.{arith}
use lib.ListN.{length, get_or}
use lib.Dec.{eqb}
use Rattle.text.specs.Truth.{either, all_of, every, between, first}
use Rattle.text.specs.Quoted.{byte, among}
use Rattle.text.specs.Classes.{reference_set, text_set}
use Rattle.text.proofs.Truths.{never, both_true, between_true, between_of, passes, pass, done}
use Rattle.answers.specs.Given.{yes, in_order, ◌else◌}
use Rattle.words.specs.Collapsed.{space, as_space, collapsed}
use Rattle.words.specs.Reference.{slash_rule, reference_form, reference_given}
use Rattle.words.specs.EndToEnd.{end_to_end_form, end_to_end_given}
use Rattle.words.specs.Text.{longest, text_form, text_given}
use Rattle.words.specs.declared.Field.{Field}
use Rattle.words.specs.Walk.{blank}
use Rattle.words.proofs.White.{reference_solid}
use Rattle.words.proofs.Collapsed.{class_collapsed, collapsed_twice, collapsed_first, collapsed_every, counted_keeps, collapsed_le, collapsed_some}
use Rattle.words.proofs.Forms.{accepts, space_text}

-- what is not refused is of the form
of_form_lem : (b : Bool) → in_order (b else 7 ∷ []) yes ≡ yes → b ≡ true
of_form_lem true e = refl
of_form_lem false e = never (cc)

-- ---- of a legal value: the collapsed bytes are of the text set, and 1 to so many
module _ (f : Field) (s : List ℕ) (e : text_given f s ≡ yes) where
  abbrev text_tests : List Bool
  text_tests = between 1 (longest f) (length (collapsed s)) ∷ every text_set (collapsed s) ∷ not (eqb (first (collapsed s)) (byte " ")) ∷ []

  text-tests : (k : ℕ) → get_or text_tests k true ≡ true
  unfolding text_given text_form
  text-tests = passes text_tests (of_form_lem (all_of text_tests) e)

  pub text_set_lem : every text_set (collapsed s) ≡ true
  text_set_lem = text-tests 1

  pub text_long : (1 ≤ length (collapsed s)) × (length (collapsed s) ≤ longest f)
  text_long = between_true 1 (longest f) (length (collapsed s)) (text-tests 0)

module _ (s : List ℕ) (e : end_to_end_given s ≡ yes) where
  abbrev end_to_end_tests : List Bool
  end_to_end_tests = every text_set (collapsed s) ∷ between 1 35 (length (collapsed s)) ∷ slash_rule (collapsed s) ∷ []

  end-to-end-tests : (k : ℕ) → get_or end_to_end_tests k true ≡ true
  unfolding end_to_end_given end_to_end_form
  end-to-end-tests = passes end_to_end_tests (of_form_lem (all_of end_to_end_tests) e)

  pub end_to_end_set : every text_set (collapsed s) ≡ true
  end_to_end_set = end-to-end-tests 0

  pub end_to_end_long : (1 ≤ length (collapsed s)) × (length (collapsed s) ≤ 35)
  end_to_end_long = between_true 1 35 (length (collapsed s)) (end-to-end-tests 1)

-- ---- judging a value or its collapsed one is the same
pub text_once : (f : Field) (s : List ℕ) → text_given f (collapsed s) ≡ text_given f s
unfolding text_given
text_once f s = rw (collapsed_twice s)

pub end_to_end_once : (s : List ℕ) → end_to_end_given (collapsed s) ≡ end_to_end_given s
unfolding end_to_end_given
end_to_end_once s = rw (collapsed_twice s)

-- ---- every byte of a legal value is of the text set, or counts as space: a test that such bytes pass, all of its bytes pass
module _ (g : ℕ → Bool) (i : (c : ℕ) → text_set (as_space c) ≡ true → g c ≡ true) where
  every_counted : (s : List ℕ) → every text_set (map as_space s) ≡ true → every g s ≡ true
  every_counted [] e = refl
  every_counted (c ∷ s) e =
      let h = both_true (text_set (as_space c)) (every text_set (map as_space s)) e in
      rw (i c h.0) (every_counted s h.1)

  collapsed-set : (s : List ℕ) → every text_set (collapsed s) ≡ true → every g s ≡ true
  collapsed-set s e = every_counted s (sym (collapsed_every text_set space_text s) ∙ e)

  pub text_every : (f : Field) (s : List ℕ) → text_given f s ≡ yes → every g s ≡ true
  text_every f s e = collapsed-set s (text_set_lem f s e)

  pub end_to_end_every : (s : List ℕ) → end_to_end_given s ≡ yes → every g s ≡ true
  end_to_end_every s e = collapsed-set s (end_to_end_set s e)

-- A legal reference has no white space, and collapses to itself.
pub reference_collapsed : (s : List ℕ) → reference_given s ≡ yes → collapsed s ≡ s
unfolding reference_given reference_form reference_set among
reference_collapsed s e =
    let l = between 1 35 (length s) ∷ every reference_set s ∷ slash_rule s ∷ [] in
    class_collapsed reference_set refl s (passes l (of_form_lem (all_of l) e) 1)

-- ---- what was legal before request 4 still is
reference_text : (s : List ℕ) → every reference_set s ≡ true → every text_set s ≡ true
unfolding text_set
reference_text [] e = refl
reference_text (c ∷ s) e =
    let h = both_true (reference_set c) (every reference_set s) e in
    rw h.0 (reference_text s h.1)

pub reference_end_to_end : (s : List ℕ) → reference_given s ≡ yes → end_to_end_given s ≡ yes
unfolding reference_given reference_form end_to_end_given end_to_end_form
reference_end_to_end s e =
    let l = between 1 35 (length s) ∷ every reference_set s ∷ slash_rule s ∷ [] in
    let h = passes l (of_form_lem (all_of l) e) in
    rw (reference_collapsed s e)
    (sym (accepts _ (pass _ _ _ (reference_text s (h 1)) (pass _ _ _ (h 0) (pass _ _ _ (h 2) done)))))

-- a byte of the text set that is no space is no blank
first_solid : (c : ℕ) → text_set c ≡ true → not (space c) ≡ true → blank c ≡ false
unfolding text_set
first_solid c t n = go (reference_set c) refl t
  where
    go : (b : Bool) → reference_set c ≡ b → either b (space c) ≡ true → blank c ≡ false
    go true e h = reference_solid c e
    go false e h = let z : false ≡ true = rw h at n in never (cc)

text_starts : (s : List ℕ) → 0 < length s → every text_set s ≡ true → not (space (first s)) ≡ true → blank (first s) ≡ false
text_starts [] h e n = never (omega arith)
text_starts (c ∷ s) h e n = first_solid c (both_true (text_set c) (every text_set s) e).0 n

pub text_still : (f : Field) (s : List ℕ) → text_form f s ≡ true → text_given f s ≡ yes
unfolding text_given text_form
text_still f s e =
    let h = passes (between 1 (longest f) (length s) ∷ every text_set s ∷ not (eqb (first s) (byte " ")) ∷ []) e in
    let n = between_true 1 (longest f) (length s) (h 0) in
    sym
    (accepts _
    (pass _ _ _ (between_of 1 (longest f) (length (collapsed s)) (collapsed_some s n.0 (text_starts s n.0 (h 1) (h 2))) (omega (arith, collapsed_le s)))
    (pass _ _ _ (collapsed_every text_set space_text s ∙ counted_keeps text_set space_text s (h 1))
    (pass _ _ _ (ap not (collapsed_first s)) done))))
