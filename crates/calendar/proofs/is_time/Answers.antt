-- `calendar::is_time` meets its contract.
use mathlib.Core.Path.{◌≡◌, refl, ap, ◌∙◌}
use mathlib.Core.List.{[], ◌∷◌}
use borrow.Author.Tests.{le-leb, lt-leb}
use lib.Dec.{eqb, leb}
use lib.ListN.{length, drop}
use Rattle.text.specs.Truth.{all_of, at, part}
use Rattle.text.proofs.Truths.{first_test, and_then, and_else}
use Rattle.text.proofs.Scan.{rest_of}
use Rattle.calendar.specs.Date.{date_form}
use Rattle.calendar.specs.Time.{clock_form, end_form, time_form}
use Rattle.calendar.proofs.Times.{time_led}
use Rattle.calendar.proofs.is_time.Goals as goal
use Rattle.calendar.proofs.is_time.Goals.{then-s-ge19, else-s-ge19, then-is_date, else-is_date, then-s-eq84, else-s-eq84}

pub returns-then-is_clock : goal.returns-then-is_clock
unfolding time_form
returns-then-is_clock c =
    let s = c.args.s.now in
    let t1 = first_test {a = leb 19 (length s)} refl in
    let t2 : c.if-s-ge19.value ≡ all_of (leb 19 (length s) ∷ date_form (part 0 10 s) ∷ []) =
    elim c.if-s-ge19.branch [
      | then-s-ge19 w ↦ and_then _ t1 (le-leb _ _ w.if-s-ge19.true) (w.value-is ∙ w.is_date.ensures)
      | else-s-ge19 w ↦ and_else _ t1 _ (lt-leb _ _ w.if-s-ge19.false) w.value-is
    ] in
    let t3 : c.if-is_date.value ≡ all_of (leb 19 (length s) ∷ date_form (part 0 10 s) ∷ eqb (at s 10) 84 ∷ []) =
    elim c.if-is_date.branch [
      | then-is_date w ↦ and_then _ t2 w.if-is_date.true w.value-is
      | else-is_date w ↦ and_else _ t2 _ w.if-is_date.false w.value-is
    ] in
    let t4 : c.if-s-eq84.value ≡ all_of (leb 19 (length s) ∷ date_form (part 0 10 s) ∷ eqb (at s 10) 84 ∷ clock_form (part 11 8 s) ∷ []) =
    elim c.if-s-eq84.branch [
      | then-s-eq84 w ↦ and_then _ t3 w.if-s-eq84.true (w.value-is ∙ w.is_clock.ensures)
      | else-s-eq84 w ↦ and_else _ t3 _ w.if-s-eq84.false w.value-is
    ] in
    and_then _ t4 c.if-is_clock.true (c.is_end.ensures ∙ ap end_form (rest_of 19 s)) ∙ time_led s _ refl

pub returns-else-is_clock : goal.returns-else-is_clock
unfolding time_form
returns-else-is_clock c =
    let s = c.args.s.now in
    let t1 = first_test {a = leb 19 (length s)} refl in
    let t2 : c.if-s-ge19.value ≡ all_of (leb 19 (length s) ∷ date_form (part 0 10 s) ∷ []) =
    elim c.if-s-ge19.branch [
      | then-s-ge19 w ↦ and_then _ t1 (le-leb _ _ w.if-s-ge19.true) (w.value-is ∙ w.is_date.ensures)
      | else-s-ge19 w ↦ and_else _ t1 _ (lt-leb _ _ w.if-s-ge19.false) w.value-is
    ] in
    let t3 : c.if-is_date.value ≡ all_of (leb 19 (length s) ∷ date_form (part 0 10 s) ∷ eqb (at s 10) 84 ∷ []) =
    elim c.if-is_date.branch [
      | then-is_date w ↦ and_then _ t2 w.if-is_date.true w.value-is
      | else-is_date w ↦ and_else _ t2 _ w.if-is_date.false w.value-is
    ] in
    let t4 : c.if-s-eq84.value ≡ all_of (leb 19 (length s) ∷ date_form (part 0 10 s) ∷ eqb (at s 10) 84 ∷ clock_form (part 11 8 s) ∷ []) =
    elim c.if-s-eq84.branch [
      | then-s-eq84 w ↦ and_then _ t3 w.if-s-eq84.true (w.value-is ∙ w.is_clock.ensures)
      | else-s-eq84 w ↦ and_else _ t3 _ w.if-s-eq84.false w.value-is
    ] in
    and_else _ t4 (end_form (drop 19 s)) c.if-is_clock.false refl ∙ time_led s _ refl
