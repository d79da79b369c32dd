-- `accounts::is_iban` meets its contract.
use mathlib.Core.Path.{◌≡◌, refl, ap, ◌∙◌}
use mathlib.Core.List.{[], ◌∷◌}
use lib.ListN.{length}
use Rattle.text.specs.Truth.{all_of, every, between}
use Rattle.text.specs.Classes.{capital_or_digit, in_class}
use Rattle.text.proofs.Truths.{first_test, and_then, and_else}
use Rattle.text.proofs.Scan.{rest_of}
use Rattle.text.proofs.Chains.{range_between}
use Rattle.accounts.specs.Head.{head}
use Rattle.accounts.specs.Iban.{iban_form}
use Rattle.accounts.proofs.is_iban.Goals as goal
use Rattle.accounts.proofs.is_iban.Goals.{then-contains, else-contains}

pub returns-then-is_head : goal.returns-then-is_head
unfolding iban_form in_class
returns-then-is_head c =
    let s = c.args.s.now in
    let r = c.new.ensures in
    let t0 = first_test (c.contains.ensures.value ∙ range_between _ _ _ (length s) r.start r.end r.exhausted) in
    let t1 : c.if-contains.value ≡ all_of (between 15 34 (length s) ∷ head s ∷ []) =
    elim c.if-contains.branch [
      | then-contains w ↦ and_then _ t0 w.if-contains.true (w.value-is ∙ w.is_head.ensures)
      | else-contains w ↦ and_else _ t0 _ w.if-contains.false w.value-is
    ] in
    and_then _ t1 c.if-is_head.true (c.all_in.ensures ∙ ap (every capital_or_digit) (rest_of 4 s))

pub returns-else-is_head : goal.returns-else-is_head
unfolding iban_form in_class
returns-else-is_head c =
    let s = c.args.s.now in
    let r = c.new.ensures in
    let t0 = first_test (c.contains.ensures.value ∙ range_between _ _ _ (length s) r.start r.end r.exhausted) in
    let t1 : c.if-contains.value ≡ all_of (between 15 34 (length s) ∷ head s ∷ []) =
    elim c.if-contains.branch [
      | then-contains w ↦ and_then _ t0 w.if-contains.true (w.value-is ∙ w.is_head.ensures)
      | else-contains w ↦ and_else _ t0 _ w.if-contains.false w.value-is
    ] in
    and_else _ t1 _ c.if-is_head.false refl
