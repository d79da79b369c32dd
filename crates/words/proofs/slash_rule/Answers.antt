-- `words::slash_rule` meets its contract: no slash first, none last, no two.
use Rattle.std.proofs.Common.{◌≡◌, refl, ap, not, [], ◌∷◌, ◌∙◌}
use Rattle.text.specs.Truth.{all_of, first, last}
use Rattle.text.proofs.Truths.{first_test, and_then, and_else}
use Rattle.words.specs.Reference.{slash, slash_rule}
use Rattle.words.proofs.Slashes.{starts_slash, ends_slash}
use Rattle.words.proofs.slash_rule.Goals as goal
use Rattle.words.proofs.slash_rule.Goals.{then-not-starts_with, else-not-starts_with}

pub returns-then-not-ends_with : goal.returns-then-not-ends_with
unfolding slash_rule
returns-then-not-ends_with c =
    let s = c.args.s.now in
    let f = first_test (ap not (c.starts_with.ensures.value ∙ starts_slash s)) in
    let ends : c.if-not-starts_with.value ≡ all_of (not (slash (first s)) ∷ not (slash (last s)) ∷ []) =
    elim c.if-not-starts_with.branch [
      | then-not-starts_with w ↦ and_then _ f (ap not w.if-not-starts_with.true) (w.value-is ∙ ap not (w.ends_with.ensures.value ∙ ends_slash s))
      | else-not-starts_with w ↦ and_else _ f _ (ap not w.if-not-starts_with.false) w.value-is
    ] in
    and_then _ ends c.if-not-ends_with.true (ap not c.two_slashes.ensures)

pub returns-else-not-ends_with : goal.returns-else-not-ends_with
unfolding slash_rule
returns-else-not-ends_with c =
    let s = c.args.s.now in
    let f = first_test (ap not (c.starts_with.ensures.value ∙ starts_slash s)) in
    let ends : c.if-not-starts_with.value ≡ all_of (not (slash (first s)) ∷ not (slash (last s)) ∷ []) =
    elim c.if-not-starts_with.branch [
      | then-not-starts_with w ↦ and_then _ f (ap not w.if-not-starts_with.true) (w.value-is ∙ ap not (w.ends_with.ensures.value ∙ ends_slash s))
      | else-not-starts_with w ↦ and_else _ f _ (ap not w.if-not-starts_with.false) w.value-is
    ] in
    and_else _ ends _ c.if-not-ends_with.false refl
