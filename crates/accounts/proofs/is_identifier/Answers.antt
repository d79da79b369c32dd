-- `accounts::is_identifier` meets its contract.
use mathlib.Core.Path.{◌≡◌, refl, ap, ◌∙◌}
use mathlib.Core.List.{[], ◌∷◌}
use lib.ListN.{length, drop}
use Rattle.text.specs.Truth.{all_of, every, some, between, part}
use Rattle.text.specs.Classes.{letter_or_digit, reference_set, in_class}
use Rattle.text.proofs.Truths.{first_test, and_then, and_else}
use Rattle.text.proofs.Scan.{rest_of}
use Rattle.text.proofs.Chains.{range_between}
use Rattle.accounts.specs.Head.{head}
use Rattle.accounts.specs.Identifier.{identifier_form}
use Rattle.accounts.proofs.is_identifier.Goals as goal
use Rattle.accounts.proofs.is_identifier.Goals.{then-contains, else-contains, then-is_head, else-is_head, then-all_in, else-all_in}

pub returns-then-all_in-2 : goal.returns-then-all_in-2
unfolding identifier_form in_class
returns-then-all_in-2 c =
    let s = c.args.s.now in
    let r = c.new.ensures in
    let t0 = first_test (c.contains.ensures.value ∙ range_between _ _ _ (length s) r.start r.end r.exhausted) in
    let t1 : c.if-contains.value ≡ all_of (between 8 35 (length s) ∷ head s ∷ []) =
    elim c.if-contains.branch [
      | then-contains w ↦ and_then _ t0 w.if-contains.true (w.value-is ∙ w.is_head.ensures)
      | else-contains w ↦ and_else _ t0 _ w.if-contains.false w.value-is
    ] in
    let t2 : c.if-is_head.value ≡ all_of (between 8 35 (length s) ∷ head s ∷ every letter_or_digit (part 4 3 s) ∷ []) =
    elim c.if-is_head.branch [
      | then-is_head w ↦ and_then _ t1 w.if-is_head.true (w.value-is ∙ w.all_in.ensures)
      | else-is_head w ↦ and_else _ t1 _ w.if-is_head.false w.value-is
    ] in
    let t3 : c.if-all_in.value ≡ all_of (between 8 35 (length s) ∷ head s ∷ every letter_or_digit (part 4 3 s) ∷ every reference_set (drop 7 s) ∷ []) =
    elim c.if-all_in.branch [
      | then-all_in w ↦ and_then _ t2 w.if-all_in.true (w.value-is ∙ w.all_in-then-all_in.ensures ∙ ap (every reference_set) (rest_of 7 s))
      | else-all_in w ↦ and_else _ t2 _ w.if-all_in.false w.value-is
    ] in
    and_then _ t3 c.if-all_in-2.true (c.some_in.ensures ∙ ap (some letter_or_digit) (rest_of 7 s))

pub returns-else-all_in-2 : goal.returns-else-all_in-2
unfolding identifier_form in_class
returns-else-all_in-2 c =
    let s = c.args.s.now in
    let r = c.new.ensures in
    let t0 = first_test (c.contains.ensures.value ∙ range_between _ _ _ (length s) r.start r.end r.exhausted) in
    let t1 : c.if-contains.value ≡ all_of (between 8 35 (length s) ∷ head s ∷ []) =
    elim c.if-contains.branch [
      | then-contains w ↦ and_then _ t0 w.if-contains.true (w.value-is ∙ w.is_head.ensures)
      | else-contains w ↦ and_else _ t0 _ w.if-contains.false w.value-is
    ] in
    let t2 : c.if-is_head.value ≡ all_of (between 8 35 (length s) ∷ head s ∷ every letter_or_digit (part 4 3 s) ∷ []) =
    elim c.if-is_head.branch [
      | then-is_head w ↦ and_then _ t1 w.if-is_head.true (w.value-is ∙ w.all_in.ensures)
      | else-is_head w ↦ and_else _ t1 _ w.if-is_head.false w.value-is
    ] in
    let t3 : c.if-all_in.value ≡ all_of (between 8 35 (length s) ∷ head s ∷ every letter_or_digit (part 4 3 s) ∷ every reference_set (drop 7 s) ∷ []) =
    elim c.if-all_in.branch [
      | then-all_in w ↦ and_then _ t2 w.if-all_in.true (w.value-is ∙ w.all_in-then-all_in.ensures ∙ ap (every reference_set) (rest_of 7 s))
      | else-all_in w ↦ and_else _ t2 _ w.if-all_in.false w.value-is
    ] in
    and_else _ t3 _ c.if-all_in-2.false refl
