-- `calendar::is_clock` meets its contract.
use mathlib.Core.Path.{◌≡◌, refl, ap, ◌∙◌}
use mathlib.Core.List.{[], ◌∷◌}
use lib.Dec.{leb}
use Rattle.text.specs.Truth.{all_of, part}
use Rattle.text.specs.Quoted.{decimal}
use Rattle.text.proofs.Truths.{first_test, and_then, and_else}
use Rattle.calendar.specs.Pattern.{written}
use Rattle.calendar.specs.Time.{clock_form}
use Rattle.calendar.proofs.is_clock.Goals as goal
use Rattle.calendar.proofs.is_clock.Goals.{then-is_written, else-is_written, then-two_at-le23, else-two_at-le23}

pub returns-then-two_at-le59 : goal.returns-then-two_at-le59
unfolding clock_form written
returns-then-two_at-le59 c =
    let s = c.args.s.now in
    let t1 = first_test c.is_written.ensures in
    let t2 : c.if-is_written.value ≡ all_of (written "hh:mm:ss" s ∷ leb (decimal (part 0 2 s)) 23 ∷ []) =
    elim c.if-is_written.branch [
      | then-is_written w ↦ and_then _ t1 w.if-is_written.true (w.value-is ∙ ap (λ k. leb k 23) w.two_at.ensures.value)
      | else-is_written w ↦ and_else _ t1 _ w.if-is_written.false w.value-is
    ] in
    let t3 : c.if-two_at-le23.value ≡ all_of (written "hh:mm:ss" s ∷ leb (decimal (part 0 2 s)) 23 ∷ leb (decimal (part 3 2 s)) 59 ∷ []) =
    elim c.if-two_at-le23.branch [
      | then-two_at-le23 w ↦ and_then _ t2 w.if-two_at-le23.true (w.value-is ∙ ap (λ k. leb k 59) w.two_at-then-two_at-le23.ensures.value)
      | else-two_at-le23 w ↦ and_else _ t2 _ w.if-two_at-le23.false w.value-is
    ] in
    and_then _ t3 c.if-two_at-le59.true (ap (λ k. leb k 59) c.two_at-then-two_at-le59.ensures.value)

pub returns-else-two_at-le59 : goal.returns-else-two_at-le59
unfolding clock_form written
returns-else-two_at-le59 c =
    let s = c.args.s.now in
    let t1 = first_test c.is_written.ensures in
    let t2 : c.if-is_written.value ≡ all_of (written "hh:mm:ss" s ∷ leb (decimal (part 0 2 s)) 23 ∷ []) =
    elim c.if-is_written.branch [
      | then-is_written w ↦ and_then _ t1 w.if-is_written.true (w.value-is ∙ ap (λ k. leb k 23) w.two_at.ensures.value)
      | else-is_written w ↦ and_else _ t1 _ w.if-is_written.false w.value-is
    ] in
    let t3 : c.if-two_at-le23.value ≡ all_of (written "hh:mm:ss" s ∷ leb (decimal (part 0 2 s)) 23 ∷ leb (decimal (part 3 2 s)) 59 ∷ []) =
    elim c.if-two_at-le23.branch [
      | then-two_at-le23 w ↦ and_then _ t2 w.if-two_at-le23.true (w.value-is ∙ ap (λ k. leb k 59) w.two_at-then-two_at-le23.ensures.value)
      | else-two_at-le23 w ↦ and_else _ t2 _ w.if-two_at-le23.false w.value-is
    ] in
    and_else _ t3 _ c.if-two_at-le59.false refl
