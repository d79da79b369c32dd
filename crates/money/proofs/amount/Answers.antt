-- `money::amount` meets its contract.
use Rattle.std.proofs.Common.{◌≡◌, sym, ap, length, [], ◌∷◌, ◌+◌, ◌*◌, ◌<◌, ◌∙◌, arith}
use Rattle.std.proofs.lemmas.Result.{err_from_is_err_and}
use Rattle.text.specs.Truth.{all_of, between}
use Rattle.text.specs.Classes.{digit, in_class}
use Rattle.text.proofs.Truths.{first_test, and_then, and_else}
use Rattle.text.proofs.Chains.{range_between}
use Rattle.text.proofs.Decimal.{decimal_below}
use Rattle.text.proofs.Scan.{lead_le}
use Rattle.answers.specs.Given.{worth, ◌else◌}
use Rattle.answers.proofs.Rules.{rule_held, rule_failed, past_first}
use Rattle.money.specs.Amount.{cents, most, amount_given}
use Rattle.money.proofs.Fractions.{fractional}
use Rattle.money.proofs.Amounts.{first_digits, form_is, cents_is, parts}
use Rattle.money.proofs.amount.Goals as goal
use Rattle.money.proofs.amount.Goals.{then-contains, else-contains}

pub split_at-requires : goal.split_at-requires
unfolding in_class
split_at-requires c = omega (arith, lead_le digit c.args.s.now)

pub returns-in_err-require : goal.returns-in_err-require
unfolding amount_given in_class
returns-in_err-require c =
    let s = c.args.s.now in
    let n = c.new.ensures in
    let e = c.split_at.result.0.now in
    let r = c.split_at.result.1.now in
    let f = first_test (c.contains.ensures.value ∙ range_between _ _ _ (length e) n.start n.end n.exhausted) in
    let two : c.if-contains.require ≡ all_of (between 1 15 (length e) ∷ fractional r ∷ []) =
    elim c.if-contains.branch [
      | then-contains w ↦ and_then _ f w.if-contains.true (w.require-is ∙ w.is_fraction.ensures)
      | else-contains w ↦ and_else _ f _ w.if-contains.false w.require-is
    ] in
    let p = err_from_is_err_and c.from_residual.result c.from_residual.ensures.1 in
    rw (p.1, p.2)
    (rule_failed _ _ c.require.ensures (two ∙ sym (form_is s e r _ c.run_in.ensures c.split_at.ensures.front c.split_at.ensures.back)) c.in_err-require.was (between 1 (most c.args.k) (cents s) else 9 ∷ []) (worth (cents s)))

pub number-requires : goal.number-requires
unfolding in_class
number-requires c =
    let s = c.args.s.now in
    let n = c.new.ensures in
    let e = c.split_at.result.0.now in
    let r = c.split_at.result.1.now in
    let f = first_test (c.contains.ensures.value ∙ range_between _ _ _ (length e) n.start n.end n.exhausted) in
    let two : c.if-contains.require ≡ all_of (between 1 15 (length e) ∷ fractional r ∷ []) =
    elim c.if-contains.branch [
      | then-contains w ↦ and_then _ f w.if-contains.true (w.require-is ∙ w.is_fraction.ensures)
      | else-contains w ↦ and_else _ f _ w.if-contains.false w.require-is
    ] in
    let held = rule_held _ _ c.require.ensures two c.in_ok-require.was in
    record {
      s_len_bound = (parts e r held).short;
      s_value = first_digits s e r _ c.run_in.ensures c.split_at.ensures.front c.split_at.ensures.back;
    }

pub overflow_mul-cents : goal.overflow_mul-cents
unfolding in_class
overflow_mul-cents c =
    let s = c.args.s.now in
    let n = c.new.ensures in
    let e = c.split_at.result.0.now in
    let r = c.split_at.result.1.now in
    let f = first_test (c.contains.ensures.value ∙ range_between _ _ _ (length e) n.start n.end n.exhausted) in
    let two : c.if-contains.require ≡ all_of (between 1 15 (length e) ∷ fractional r ∷ []) =
    elim c.if-contains.branch [
      | then-contains w ↦ and_then _ f w.if-contains.true (w.require-is ∙ w.is_fraction.ensures)
      | else-contains w ↦ and_else _ f _ w.if-contains.false w.require-is
    ] in
    let held = rule_held _ _ c.require.ensures two c.in_ok-require.was in
    let b : c.number.result < 1000000000000000 = rw c.number.ensures (decimal_below 15 e (parts e r held).short (first_digits s e r _ c.run_in.ensures c.split_at.ensures.front c.split_at.ensures.back)) in
    omega arith

pub fraction-requires : goal.fraction-requires
fraction-requires c =
    let s = c.args.s.now in
    let n = c.new.ensures in
    let e = c.split_at.result.0.now in
    let r = c.split_at.result.1.now in
    let f = first_test (c.contains.ensures.value ∙ range_between _ _ _ (length e) n.start n.end n.exhausted) in
    let two : c.if-contains.require ≡ all_of (between 1 15 (length e) ∷ fractional r ∷ []) =
    elim c.if-contains.branch [
      | then-contains w ↦ and_then _ f w.if-contains.true (w.require-is ∙ w.is_fraction.ensures)
      | else-contains w ↦ and_else _ f _ w.if-contains.false w.require-is
    ] in
    let held = rule_held _ _ c.require.ensures two c.in_ok-require.was in
    (parts e r held).fraction

pub overflow_add-cents : goal.overflow_add-cents
unfolding in_class
overflow_add-cents c =
    let s = c.args.s.now in
    let n = c.new.ensures in
    let e = c.split_at.result.0.now in
    let r = c.split_at.result.1.now in
    let f = first_test (c.contains.ensures.value ∙ range_between _ _ _ (length e) n.start n.end n.exhausted) in
    let two : c.if-contains.require ≡ all_of (between 1 15 (length e) ∷ fractional r ∷ []) =
    elim c.if-contains.branch [
      | then-contains w ↦ and_then _ f w.if-contains.true (w.require-is ∙ w.is_fraction.ensures)
      | else-contains w ↦ and_else _ f _ w.if-contains.false w.require-is
    ] in
    let held = rule_held _ _ c.require.ensures two c.in_ok-require.was in
    let b : c.number.result < 1000000000000000 = rw c.number.ensures (decimal_below 15 e (parts e r held).short (first_digits s e r _ c.run_in.ensures c.split_at.ensures.front c.split_at.ensures.back)) in
    omega arith

pub returns-in_err-require-2 : goal.returns-in_err-require-2
unfolding amount_given in_class
returns-in_err-require-2 c =
    let s = c.args.s.now in
    let n = c.new.ensures in
    let e = c.split_at.result.0.now in
    let r = c.split_at.result.1.now in
    let f = first_test (c.contains.ensures.value ∙ range_between _ _ _ (length e) n.start n.end n.exhausted) in
    let two : c.if-contains.require ≡ all_of (between 1 15 (length e) ∷ fractional r ∷ []) =
    elim c.if-contains.branch [
      | then-contains w ↦ and_then _ f w.if-contains.true (w.require-is ∙ w.is_fraction.ensures)
      | else-contains w ↦ and_else _ f _ w.if-contains.false w.require-is
    ] in
    let form = sym (form_is s e r _ c.run_in.ensures c.split_at.ensures.front c.split_at.ensures.back) in
    let x = cents_is s e r _ c.run_in.ensures c.split_at.ensures.front c.split_at.ensures.back c.number.result c.fraction.result c.number.ensures c.fraction.ensures.value in
    let m = c.new-2.ensures in
    let range = c.contains-2.ensures.value ∙ range_between _ _ _ (c.number.result * 100 + c.fraction.result) m.start (m.end ∙ c.most_of.ensures) m.exhausted ∙ ap (between 1 (most c.args.k)) x in
    let p = err_from_is_err_and c.from_residual-in_err-require-2.result c.from_residual-in_err-require-2.ensures.1 in
    rw (p.1, p.2)
    (past_first _ 7 (between 1 (most c.args.k) (cents s) else 9 ∷ []) (worth (cents s)) (rule_held _ _ c.require.ensures (two ∙ form) c.in_ok-require.was)
    (rule_failed _ _ c.require-2.ensures range c.in_err-require-2.was [] (worth (cents s))))

pub returns : goal.returns
unfolding amount_given in_class
returns c =
    let s = c.args.s.now in
    let n = c.new.ensures in
    let e = c.split_at.result.0.now in
    let r = c.split_at.result.1.now in
    let f = first_test (c.contains.ensures.value ∙ range_between _ _ _ (length e) n.start n.end n.exhausted) in
    let two : c.if-contains.require ≡ all_of (between 1 15 (length e) ∷ fractional r ∷ []) =
    elim c.if-contains.branch [
      | then-contains w ↦ and_then _ f w.if-contains.true (w.require-is ∙ w.is_fraction.ensures)
      | else-contains w ↦ and_else _ f _ w.if-contains.false w.require-is
    ] in
    let form = sym (form_is s e r _ c.run_in.ensures c.split_at.ensures.front c.split_at.ensures.back) in
    let x = cents_is s e r _ c.run_in.ensures c.split_at.ensures.front c.split_at.ensures.back c.number.result c.fraction.result c.number.ensures c.fraction.ensures.value in
    let m = c.new-2.ensures in
    let range = c.contains-2.ensures.value ∙ range_between _ _ _ (c.number.result * 100 + c.fraction.result) m.start (m.end ∙ c.most_of.ensures) m.exhausted ∙ ap (between 1 (most c.args.k)) x in
    past_first _ 7 (between 1 (most c.args.k) (cents s) else 9 ∷ []) (worth (cents s)) (rule_held _ _ c.require.ensures (two ∙ form) c.in_ok-require.was)
    (past_first _ 9 [] _ (rule_held _ _ c.require-2.ensures range c.in_ok-require-2.was) (ap worth x))
