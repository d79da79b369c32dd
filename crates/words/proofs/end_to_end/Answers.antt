-- `words::end_to_end` meets its contract.
use Rattle.std.proofs.Common.{◌≡◌, refl, [], ◌∷◌, length, ◌∙◌}
use Rattle.text.specs.Truth.{all_of, between, every}
use Rattle.text.specs.Classes.{text_set}
use Rattle.text.proofs.Truths.{first_test, and_then, and_else}
use Rattle.answers.proofs.Rules.{last_rule}
use Rattle.words.specs.Collapsed.{collapsed}
use Rattle.words.specs.EndToEnd.{end_to_end_form, end_to_end_given}
use Rattle.words.proofs.Forms.{part_solid, part_fits, part_text, part_slashes}
use Rattle.words.proofs.end_to_end.Goals as goal
use Rattle.words.proofs.end_to_end.Goals.{then-is_text, else-is_text, then-fits, else-fits}

pub fits-requires : goal.fits-requires
fits-requires c = part_solid c.args.s.now _ c.strip-p.ensures

pub returns : goal.returns
unfolding end_to_end_given end_to_end_form
returns c =
    let t = collapsed c.args.s.now in
    let part = c.strip-p.ensures in
    let f = first_test (c.is_text.ensures ∙ part_text _ _ part) in
    let two : c.if-is_text.value ≡ all_of (every text_set t ∷ between 1 35 (length t) ∷ []) =
    elim c.if-is_text.branch [
      | then-is_text w ↦ and_then _ f w.if-is_text.true (w.value-is ∙ w.fits.ensures ∙ part_fits _ _ part refl)
      | else-is_text w ↦ and_else _ f _ w.if-is_text.false w.value-is
    ] in
    let three : c.if-fits.require ≡ end_to_end_form t =
    elim c.if-fits.branch [
      | then-fits w ↦ and_then _ two w.if-fits.true (w.require-is ∙ w.slash_rule.ensures ∙ part_slashes _ _ part)
      | else-fits w ↦ and_else _ two _ w.if-fits.false w.require-is
    ] in
    last_rule _ _ c.require.ensures three
