-- `recording::is_record` meets its contract: the length, the time, the side, what names the bulk, and the end of line.
use Rattle.std.proofs.Common.{◌≡◌, refl, sym, length, arith, [], ◌∷◌, ◌∙◌}
use borrow.Author.Tests.{eq-eqb, ne_eqb}
use lib.Dec.{eqb}
use lib.Seq.{length-take-le}
use Rattle.text.specs.Truth.{all_of, at}
use Rattle.text.specs.Quoted.{among}
use Rattle.text.proofs.Truths.{first_test, and_then, and_else}
use Rattle.recording.specs.Record.{line_length, time_in, stamp_form, names_form, record_form}
use Rattle.recording.proofs.is_record.Goals as goal
use Rattle.recording.proofs.is_record.Goals.{then-r-eq-LENGTH, else-r-eq-LENGTH, then-is_stamp, else-is_stamp, then-is_some, else-is_some}

pub slice_bounds-is_stamp-end : goal.slice_bounds-is_stamp-end
slice_bounds-is_stamp-end c = sym (length-take-le 25 c.args.r.now (omega arith))

pub is_stamp-requires : goal.is_stamp-requires
is_stamp-requires c = length-take-le 25 c.args.r.now (omega arith)

pub returns-then-has_names : goal.returns-then-has_names
unfolding record_form
returns-then-has_names c =
    let r = c.args.r.now in
    let one : eqb (length r) 64 ≡ all_of (eqb (length r) line_length ∷ []) = first_test refl in
    let two : c.if-r-eq-LENGTH.value ≡ all_of (eqb (length r) line_length ∷ stamp_form (time_in r) ∷ []) =
    elim c.if-r-eq-LENGTH.branch [
      | then-r-eq-LENGTH w ↦ and_then _ one (eq-eqb _ _ w.if-r-eq-LENGTH.true) (w.value-is ∙ w.is_stamp.ensures)
      | else-r-eq-LENGTH w ↦ and_else _ one _ (ne_eqb _ _ w.if-r-eq-LENGTH.false) w.value-is
    ] in
    let three : c.if-is_stamp.value ≡ all_of (eqb (length r) line_length ∷ stamp_form (time_in r) ∷ among "E W" (at r 25) ∷ []) =
    elim c.if-is_stamp.branch [
      | then-is_stamp w ↦ and_then _ two w.if-is_stamp.true (w.value-is ∙ w.is_some.ensures ∙ w.side_of.ensures.named)
      | else-is_stamp w ↦ and_else _ two _ w.if-is_stamp.false w.value-is
    ] in
    let four : c.if-is_some.value ≡ all_of (eqb (length r) line_length ∷ stamp_form (time_in r) ∷ among "E W" (at r 25) ∷ names_form r ∷ []) =
    elim c.if-is_some.branch [
      | then-is_some w ↦ and_then _ three w.if-is_some.true (w.value-is ∙ w.has_names.ensures)
      | else-is_some w ↦ and_else _ three _ w.if-is_some.false w.value-is
    ] in
    and_then _ four c.if-has_names.true refl

pub returns-else-has_names : goal.returns-else-has_names
unfolding record_form
returns-else-has_names c =
    let r = c.args.r.now in
    let one : eqb (length r) 64 ≡ all_of (eqb (length r) line_length ∷ []) = first_test refl in
    let two : c.if-r-eq-LENGTH.value ≡ all_of (eqb (length r) line_length ∷ stamp_form (time_in r) ∷ []) =
    elim c.if-r-eq-LENGTH.branch [
      | then-r-eq-LENGTH w ↦ and_then _ one (eq-eqb _ _ w.if-r-eq-LENGTH.true) (w.value-is ∙ w.is_stamp.ensures)
      | else-r-eq-LENGTH w ↦ and_else _ one _ (ne_eqb _ _ w.if-r-eq-LENGTH.false) w.value-is
    ] in
    let three : c.if-is_stamp.value ≡ all_of (eqb (length r) line_length ∷ stamp_form (time_in r) ∷ among "E W" (at r 25) ∷ []) =
    elim c.if-is_stamp.branch [
      | then-is_stamp w ↦ and_then _ two w.if-is_stamp.true (w.value-is ∙ w.is_some.ensures ∙ w.side_of.ensures.named)
      | else-is_stamp w ↦ and_else _ two _ w.if-is_stamp.false w.value-is
    ] in
    let four : c.if-is_some.value ≡ all_of (eqb (length r) line_length ∷ stamp_form (time_in r) ∷ among "E W" (at r 25) ∷ names_form r ∷ []) =
    elim c.if-is_some.branch [
      | then-is_some w ↦ and_then _ three w.if-is_some.true (w.value-is ∙ w.has_names.ensures)
      | else-is_some w ↦ and_else _ three _ w.if-is_some.false w.value-is
    ] in
    and_else _ four _ c.if-has_names.false refl
