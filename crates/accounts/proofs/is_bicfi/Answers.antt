-- `accounts::is_bicfi` meets its contract.
use mathlib.Core.Path.{◌≡◌, refl, ap, ◌∙◌}
use mathlib.Core.List.{[], ◌∷◌}
use lib.ListN.{length}
use Rattle.text.specs.Truth.{either, all_of, every, part}
use lib.Dec.{eqb}
use Rattle.text.specs.Classes.{capital, capital_or_digit, in_class}
use Rattle.text.proofs.Truths.{first_test, and_then, and_else}
use Rattle.text.proofs.Scan.{rest_of}
use Rattle.accounts.specs.Bic.{bicfi_form}
use Rattle.accounts.proofs.is_bicfi.Goals as goal
use Rattle.accounts.proofs.is_bicfi.Goals.{then-is_length, else-is_length, then-all_in, else-all_in}

pub returns-then-all_in-2 : goal.returns-then-all_in-2
unfolding bicfi_form in_class
returns-then-all_in-2 c =
    let s = c.args.s.now in
    let t0 = first_test (c.is_length.ensures) in
    let t1 : c.if-is_length.value ≡ all_of (either (eqb (length s) 8) (eqb (length s) 11) ∷ every capital_or_digit (part 0 4 s) ∷ []) =
    elim c.if-is_length.branch [
      | then-is_length w ↦ and_then _ t0 w.if-is_length.true (w.value-is ∙ w.all_in.ensures)
      | else-is_length w ↦ and_else _ t0 _ w.if-is_length.false w.value-is
    ] in
    let t2 : c.if-all_in.value ≡ all_of (either (eqb (length s) 8) (eqb (length s) 11) ∷ every capital_or_digit (part 0 4 s) ∷ every capital (part 4 2 s) ∷ []) =
    elim c.if-all_in.branch [
      | then-all_in w ↦ and_then _ t1 w.if-all_in.true (w.value-is ∙ w.all_in-then-all_in.ensures)
      | else-all_in w ↦ and_else _ t1 _ w.if-all_in.false w.value-is
    ] in
    and_then _ t2 c.if-all_in-2.true (c.all_in-then-all_in-2.ensures ∙ ap (every capital_or_digit) (rest_of 6 s))

pub returns-else-all_in-2 : goal.returns-else-all_in-2
unfolding bicfi_form in_class
returns-else-all_in-2 c =
    let s = c.args.s.now in
    let t0 = first_test (c.is_length.ensures) in
    let t1 : c.if-is_length.value ≡ all_of (either (eqb (length s) 8) (eqb (length s) 11) ∷ every capital_or_digit (part 0 4 s) ∷ []) =
    elim c.if-is_length.branch [
      | then-is_length w ↦ and_then _ t0 w.if-is_length.true (w.value-is ∙ w.all_in.ensures)
      | else-is_length w ↦ and_else _ t0 _ w.if-is_length.false w.value-is
    ] in
    let t2 : c.if-all_in.value ≡ all_of (either (eqb (length s) 8) (eqb (length s) 11) ∷ every capital_or_digit (part 0 4 s) ∷ every capital (part 4 2 s) ∷ []) =
    elim c.if-all_in.branch [
      | then-all_in w ↦ and_then _ t1 w.if-all_in.true (w.value-is ∙ w.all_in-then-all_in.ensures)
      | else-all_in w ↦ and_else _ t1 _ w.if-all_in.false w.value-is
    ] in
    and_else _ t2 _ c.if-all_in-2.false refl
