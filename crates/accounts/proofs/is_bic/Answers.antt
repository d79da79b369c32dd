-- `accounts::is_bic` meets its contract.
use mathlib.Core.Path.{◌≡◌, refl, ap, ◌∙◌}
use mathlib.Core.List.{[], ◌∷◌}
use lib.ListN.{length}
use Rattle.text.specs.Truth.{either, all_of, every, at, part}
use lib.Dec.{eqb}
use Rattle.text.specs.Quoted.{among}
use Rattle.text.specs.Classes.{capital, capital_or_digit, in_class}
use Rattle.text.proofs.Truths.{first_test, and_then, and_else}
use Rattle.text.proofs.Scan.{rest_of}
use Rattle.accounts.specs.Bic.{bic_form}
use Rattle.accounts.proofs.is_bic.Goals as goal
use Rattle.accounts.proofs.is_bic.Goals.{then-is_length, else-is_length, then-all_in, else-all_in, then-is_seventh, else-is_seventh}

pub returns-then-is_eighth : goal.returns-then-is_eighth
unfolding bic_form in_class
returns-then-is_eighth c =
    let s = c.args.s.now in
    let t0 = first_test (c.is_length.ensures) in
    let t1 : c.if-is_length.value ≡ all_of (either (eqb (length s) 8) (eqb (length s) 11) ∷ every capital (part 0 6 s) ∷ []) =
    elim c.if-is_length.branch [
      | then-is_length w ↦ and_then _ t0 w.if-is_length.true (w.value-is ∙ w.all_in.ensures)
      | else-is_length w ↦ and_else _ t0 _ w.if-is_length.false w.value-is
    ] in
    let t2 : c.if-all_in.value ≡ all_of (either (eqb (length s) 8) (eqb (length s) 11) ∷ every capital (part 0 6 s) ∷ among "A-Z 2-9" (at s 6) ∷ []) =
    elim c.if-all_in.branch [
      | then-all_in w ↦ and_then _ t1 w.if-all_in.true (w.value-is ∙ w.is_seventh.ensures)
      | else-all_in w ↦ and_else _ t1 _ w.if-all_in.false w.value-is
    ] in
    let t3 : c.if-is_seventh.value ≡ all_of (either (eqb (length s) 8) (eqb (length s) 11) ∷ every capital (part 0 6 s) ∷ among "A-Z 2-9" (at s 6) ∷ among "A-N P-Z 0-9" (at s 7) ∷ []) =
    elim c.if-is_seventh.branch [
      | then-is_seventh w ↦ and_then _ t2 w.if-is_seventh.true (w.value-is ∙ w.is_eighth.ensures)
      | else-is_seventh w ↦ and_else _ t2 _ w.if-is_seventh.false w.value-is
    ] in
    and_then _ t3 c.if-is_eighth.true (c.all_in-then-is_eighth.ensures ∙ ap (every capital_or_digit) (rest_of 8 s))

pub returns-else-is_eighth : goal.returns-else-is_eighth
unfolding bic_form in_class
returns-else-is_eighth c =
    let s = c.args.s.now in
    let t0 = first_test (c.is_length.ensures) in
    let t1 : c.if-is_length.value ≡ all_of (either (eqb (length s) 8) (eqb (length s) 11) ∷ every capital (part 0 6 s) ∷ []) =
    elim c.if-is_length.branch [
      | then-is_length w ↦ and_then _ t0 w.if-is_length.true (w.value-is ∙ w.all_in.ensures)
      | else-is_length w ↦ and_else _ t0 _ w.if-is_length.false w.value-is
    ] in
    let t2 : c.if-all_in.value ≡ all_of (either (eqb (length s) 8) (eqb (length s) 11) ∷ every capital (part 0 6 s) ∷ among "A-Z 2-9" (at s 6) ∷ []) =
    elim c.if-all_in.branch [
      | then-all_in w ↦ and_then _ t1 w.if-all_in.true (w.value-is ∙ w.is_seventh.ensures)
      | else-all_in w ↦ and_else _ t1 _ w.if-all_in.false w.value-is
    ] in
    let t3 : c.if-is_seventh.value ≡ all_of (either (eqb (length s) 8) (eqb (length s) 11) ∷ every capital (part 0 6 s) ∷ among "A-Z 2-9" (at s 6) ∷ among "A-N P-Z 0-9" (at s 7) ∷ []) =
    elim c.if-is_seventh.branch [
      | then-is_seventh w ↦ and_then _ t2 w.if-is_seventh.true (w.value-is ∙ w.is_eighth.ensures)
      | else-is_seventh w ↦ and_else _ t2 _ w.if-is_seventh.false w.value-is
    ] in
    and_else _ t3 _ c.if-is_eighth.false refl
