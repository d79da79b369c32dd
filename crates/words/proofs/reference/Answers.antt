-- `words::reference` meets its contract.
use Rattle.std.proofs.Common.{◌≡◌, [], ◌∷◌, length, ◌∙◌}
use Rattle.text.specs.Truth.{all_of, between, every}
use Rattle.text.specs.Classes.{in_class, reference_set}
use Rattle.text.proofs.Truths.{first_test, and_then, and_else}
use Rattle.text.proofs.Chains.{range_between}
use Rattle.answers.proofs.Rules.{last_rule}
use Rattle.words.specs.Reference.{reference_form, reference_given}
use Rattle.words.proofs.reference.Goals as goal
use Rattle.words.proofs.reference.Goals.{then-contains, else-contains, then-all_in, else-all_in}

pub returns : goal.returns
unfolding reference_given reference_form in_class
returns c =
    let s = c.args.s.now in
    let r = c.new.ensures in
    let f = first_test (c.contains.ensures.value ∙ range_between _ _ _ (length s) r.start r.end r.exhausted) in
    let two : c.if-contains.value ≡ all_of (between 1 35 (length s) ∷ every reference_set s ∷ []) =
    elim c.if-contains.branch [
      | then-contains w ↦ and_then _ f w.if-contains.true (w.value-is ∙ w.all_in.ensures)
      | else-contains w ↦ and_else _ f _ w.if-contains.false w.value-is
    ] in
    let three : c.if-all_in.require ≡ reference_form s =
    elim c.if-all_in.branch [
      | then-all_in w ↦ and_then _ two w.if-all_in.true (w.require-is ∙ w.slash_rule.ensures)
      | else-all_in w ↦ and_else _ two _ w.if-all_in.false w.require-is
    ] in
    last_rule _ _ c.require.ensures three
