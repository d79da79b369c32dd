-- `words::text` meets its contract: no collapsed value fails the test of the form that the code leaves out.
use Rattle.std.proofs.Common.{◌≡◌, ap, not, [], ◌∷◌, length, ◌∙◌}
use Rattle.text.specs.Truth.{all_of, between, every}
use Rattle.text.specs.Classes.{text_set}
use Rattle.text.proofs.Truths.{first_test, and_then, and_else, more_last}
use Rattle.answers.proofs.Rules.{last_rule}
use Rattle.words.specs.Collapsed.{collapsed}
use Rattle.words.specs.Text.{longest, text_form, text_given}
use Rattle.words.proofs.Collapsed.{collapsed_first}
use Rattle.words.proofs.Forms.{part_solid, part_fits, part_text}
use Rattle.words.proofs.text.Goals as goal
use Rattle.words.proofs.text.Goals.{then-fits, else-fits}

pub fits-requires : goal.fits-requires
fits-requires c = part_solid c.args.s.now _ c.strip-p.ensures

pub returns : goal.returns
unfolding text_given text_form
returns c =
    let t = collapsed c.args.s.now in
    let part = c.strip-p.ensures in
    let f = first_test (c.fits.ensures ∙ part_fits _ _ part c.longest_of.ensures) in
    let two : c.if-fits.require ≡ all_of (between 1 (longest c.args.f) (length t) ∷ every text_set t ∷ []) =
    elim c.if-fits.branch [
      | then-fits w ↦ and_then _ f w.if-fits.true (w.require-is ∙ w.is_text.ensures ∙ part_text _ _ part)
      | else-fits w ↦ and_else _ f _ w.if-fits.false w.require-is
    ] in
    last_rule _ _ c.require.ensures (more_last _ two (ap not (collapsed_first _)))
