-- `recording::has_names` meets its contract: each part is of its kind.
use Rattle.std.proofs.Common.{◌≡◌, refl, ap, [], ◌∷◌, ◌∙◌}
use Rattle.text.specs.Truth.{all_of}
use Rattle.text.proofs.Truths.{first_test, and_then, and_else}
use Rattle.words.specs.Reference.{reference_given}
use Rattle.codes.specs.declared.Element.TheVariants.{LclInstrm}
use Rattle.codes.specs.Listed.{code_given}
use Rattle.calendar.specs.Date.{date_given}
use Rattle.accounts.specs.Bic.{bicfi_given}
use Rattle.recording.specs.Record.{taken, service_in, bic_in, date_in, names_form}
use Rattle.recording.proofs.Taken.{taken_yes, taken_worth}
use Rattle.recording.proofs.has_names.Goals as goal
use Rattle.recording.proofs.has_names.Goals.{then-is_ok, else-is_ok, then-is_ok-2, else-is_ok-2}

pub returns-then-is_ok-3 : goal.returns-then-is_ok-3
unfolding names_form
returns-then-is_ok-3 c =
    let r = c.args.r.now in
    let one = first_test (c.is_ok.ensures.value ∙ taken_worth c.code.result ∙ ap taken (c.code.ensures ∙ ap (code_given LclInstrm) c.value.ensures)) in
    let two : c.if-is_ok.value ≡ all_of (taken (code_given LclInstrm (service_in r)) ∷ taken (bicfi_given (bic_in r)) ∷ []) =
    elim c.if-is_ok.branch [
      | then-is_ok w ↦ and_then _ one w.if-is_ok.true (w.value-is ∙ w.is_ok-then-is_ok.ensures.value ∙ taken_yes w.bicfi.result ∙ ap taken (w.bicfi.ensures ∙ ap bicfi_given
          w.value-then-is_ok.ensures))
      | else-is_ok w ↦ and_else _ one _ w.if-is_ok.false w.value-is
    ] in
    let three : c.if-is_ok-2.value ≡ all_of (taken (code_given LclInstrm (service_in r)) ∷ taken (bicfi_given (bic_in r)) ∷ taken (date_given (date_in r)) ∷ []) =
    elim c.if-is_ok-2.branch [
      | then-is_ok-2 w ↦ and_then _ two w.if-is_ok-2.true (w.value-is ∙ w.is_ok-then-is_ok-2.ensures.value ∙ taken_yes w.date.result ∙ ap taken w.date.ensures)
      | else-is_ok-2 w ↦ and_else _ two _ w.if-is_ok-2.false w.value-is
    ] in
    and_then _ three c.if-is_ok-3.true (c.is_ok-then-is_ok-3.ensures.value ∙ taken_yes c.reference.result ∙ ap taken (c.reference.ensures ∙ ap reference_given c.value-then-is_ok-3.ensures))

pub returns-else-is_ok-3 : goal.returns-else-is_ok-3
unfolding names_form
returns-else-is_ok-3 c =
    let r = c.args.r.now in
    let one = first_test (c.is_ok.ensures.value ∙ taken_worth c.code.result ∙ ap taken (c.code.ensures ∙ ap (code_given LclInstrm) c.value.ensures)) in
    let two : c.if-is_ok.value ≡ all_of (taken (code_given LclInstrm (service_in r)) ∷ taken (bicfi_given (bic_in r)) ∷ []) =
    elim c.if-is_ok.branch [
      | then-is_ok w ↦ and_then _ one w.if-is_ok.true (w.value-is ∙ w.is_ok-then-is_ok.ensures.value ∙ taken_yes w.bicfi.result ∙ ap taken (w.bicfi.ensures ∙ ap bicfi_given
          w.value-then-is_ok.ensures))
      | else-is_ok w ↦ and_else _ one _ w.if-is_ok.false w.value-is
    ] in
    let three : c.if-is_ok-2.value ≡ all_of (taken (code_given LclInstrm (service_in r)) ∷ taken (bicfi_given (bic_in r)) ∷ taken (date_given (date_in r)) ∷ []) =
    elim c.if-is_ok-2.branch [
      | then-is_ok-2 w ↦ and_then _ two w.if-is_ok-2.true (w.value-is ∙ w.is_ok-then-is_ok-2.ensures.value ∙ taken_yes w.date.result ∙ ap taken w.date.ensures)
      | else-is_ok-2 w ↦ and_else _ two _ w.if-is_ok-2.false w.value-is
    ] in
    and_else _ three _ c.if-is_ok-3.false refl
