-- `calendar::is_offset` meets its contract.
use mathlib.Core.Path.{◌≡◌, refl, ap, ◌∙◌}
use Prim.Native.Nat.{◌+◌, ◌*◌}
use borrow.Author.Tests.{eq-eqb, ne_eqb}
use mathlib.Core.List.{[], ◌∷◌}
use lib.Dec.{eqb, leb}
use lib.ListN.{length, drop}
use Rattle.text.specs.Truth.{all_of, first, part}
use Rattle.text.specs.Quoted.{among, decimal}
use Rattle.text.proofs.Truths.{first_test, and_then, and_else}
use Rattle.text.proofs.Scan.{rest_of}
use Rattle.calendar.specs.Pattern.{written}
use Rattle.calendar.specs.Time.{offset_form}
use Rattle.calendar.proofs.Times.{offset_led}
use Rattle.calendar.proofs.is_offset.Goals as goal
use Rattle.calendar.proofs.is_offset.Goals.{then-s-eq6, else-s-eq6, then-is_sign, else-is_sign, then-is_written, else-is_written}

pub returns-then-two_at-le59 : goal.returns-then-two_at-le59
unfolding offset_form written
returns-then-two_at-le59 c =
    let s = c.args.s.now in
    let t1 = first_test {a = eqb (length s) 6} refl in
    let t2 : c.if-s-eq6.value ≡ all_of (eqb (length s) 6 ∷ among "+ -" (first s) ∷ []) =
    elim c.if-s-eq6.branch [
      | then-s-eq6 w ↦ and_then _ t1 (eq-eqb _ _ w.if-s-eq6.true) (w.value-is ∙ w.is_sign.ensures)
      | else-s-eq6 w ↦ and_else _ t1 _ (ne_eqb _ _ w.if-s-eq6.false) w.value-is
    ] in
    let t3 : c.if-is_sign.value ≡ all_of (eqb (length s) 6 ∷ among "+ -" (first s) ∷ written "hh:mm" (drop 1 s) ∷ []) =
    elim c.if-is_sign.branch [
      | then-is_sign w ↦ and_then _ t2 w.if-is_sign.true (w.value-is ∙ w.is_written.ensures ∙ ap (written "hh:mm") (rest_of 1 s))
      | else-is_sign w ↦ and_else _ t2 _ w.if-is_sign.false w.value-is
    ] in
    let t4 : c.if-is_written.value ≡ all_of (eqb (length s) 6 ∷ among "+ -" (first s) ∷ written "hh:mm" (drop 1 s) ∷ leb (decimal (part 4 2 s)) 59 ∷ []) =
    elim c.if-is_written.branch [
      | then-is_written w ↦ and_then _ t3 w.if-is_written.true (w.value-is ∙ ap (λ k. leb k 59) w.two_at.ensures.value)
      | else-is_written w ↦ and_else _ t3 _ w.if-is_written.false w.value-is
    ] in
    and_then _ t4 c.if-two_at-le59.true (rw (c.two_at-then-two_at-le59.ensures.value, c.two_at-then-two_at-le59-2.ensures.value)) ∙ offset_led s _ refl

pub returns-else-two_at-le59 : goal.returns-else-two_at-le59
unfolding offset_form written
returns-else-two_at-le59 c =
    let s = c.args.s.now in
    let t1 = first_test {a = eqb (length s) 6} refl in
    let t2 : c.if-s-eq6.value ≡ all_of (eqb (length s) 6 ∷ among "+ -" (first s) ∷ []) =
    elim c.if-s-eq6.branch [
      | then-s-eq6 w ↦ and_then _ t1 (eq-eqb _ _ w.if-s-eq6.true) (w.value-is ∙ w.is_sign.ensures)
      | else-s-eq6 w ↦ and_else _ t1 _ (ne_eqb _ _ w.if-s-eq6.false) w.value-is
    ] in
    let t3 : c.if-is_sign.value ≡ all_of (eqb (length s) 6 ∷ among "+ -" (first s) ∷ written "hh:mm" (drop 1 s) ∷ []) =
    elim c.if-is_sign.branch [
      | then-is_sign w ↦ and_then _ t2 w.if-is_sign.true (w.value-is ∙ w.is_written.ensures ∙ ap (written "hh:mm") (rest_of 1 s))
      | else-is_sign w ↦ and_else _ t2 _ w.if-is_sign.false w.value-is
    ] in
    let t4 : c.if-is_written.value ≡ all_of (eqb (length s) 6 ∷ among "+ -" (first s) ∷ written "hh:mm" (drop 1 s) ∷ leb (decimal (part 4 2 s)) 59 ∷ []) =
    elim c.if-is_written.branch [
      | then-is_written w ↦ and_then _ t3 w.if-is_written.true (w.value-is ∙ ap (λ k. leb k 59) w.two_at.ensures.value)
      | else-is_written w ↦ and_else _ t3 _ w.if-is_written.false w.value-is
    ] in
    and_else _ t4 (leb (decimal (part 1 2 s) * 60 + decimal (part 4 2 s)) 840) c.if-two_at-le59.false refl ∙ offset_led s _ refl
