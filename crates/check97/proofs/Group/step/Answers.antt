-- `check97::Group::step` meets its contract: what each class of characters writes.
use native.Mathlib.Omega.{arith}
use mathlib.Core.Path.{ap, sym, ◌∙◌}
use Prim.Native.Nat.{ℕ, ◌+◌, ◌*◌, ◌%◌}
use Rattle.text.proofs.Truths.{between_of, between_under, between_over}
use Rattle.text.proofs.Digits.{digit_range, capital_range, small_range, capital_no_digit, small_no_digit, small_no_capital}
use Rattle.check97.proofs.Spelled.{onto_digit, onto_capital, onto_small, onto_none}
use Rattle.check97.proofs.Group.step.Goals as goal

pub returns-in-48-to-57 : goal.returns-in-48-to-57
returns-in-48-to-57 c =
    let x = c.args.c in
    rw (onto_digit c.args.self x (digit_range x ∙ between_of 48 57 x (omega arith) (omega arith)))
    (c.joined.ensures ∙ ap (λ (k : ℕ). (c.args.self * 10 + k) % 97) c.from.ensures)

pub returns-in-65-to-90 : goal.returns-in-65-to-90
returns-in-65-to-90 c =
    let x = c.args.c in
    let g = capital_range x ∙ between_of 65 90 x (omega arith) (omega arith) in
    rw (onto_capital c.args.self x (capital_no_digit x g) g) (c.joined-in-65-to-90.ensures ∙ ap (λ (k : ℕ). (c.args.self * 100 + k) % 97) (omega (arith, c.from-in-65-to-90.ensures)))

pub returns-in-97-to-122 : goal.returns-in-97-to-122
returns-in-97-to-122 c =
    let x = c.args.c in
    let g = small_range x ∙ between_of 97 122 x (omega arith) (omega arith) in
    rw (onto_small c.args.self x (small_no_digit x g) (small_no_capital x g) g)
    (c.joined-in-97-to-122.ensures ∙ ap (λ (k : ℕ). (c.args.self * 100 + k) % 97) (omega (arith, c.from-in-97-to-122.ensures)))

pub returns-in_default : goal.returns-in_default
returns-in_default c =
    let x = c.args.c in
    ap (λ (n : ℕ). n % 97)
    (sym (onto_none c.args.self x (digit_range x ∙ between_under 48 57 x (omega arith)) (capital_range x ∙ between_under 65 90 x (omega arith)) (small_range x ∙ between_under 97 122 x (omega arith))))

pub returns-in_default-2 : goal.returns-in_default-2
returns-in_default-2 c =
    let x = c.args.c in
    ap (λ (n : ℕ). n % 97)
    (sym (onto_none c.args.self x (digit_range x ∙ between_over 48 57 x (omega arith)) (capital_range x ∙ between_under 65 90 x (omega arith)) (small_range x ∙ between_under 97 122 x (omega arith))))

pub returns-in_default-3 : goal.returns-in_default-3
returns-in_default-3 c =
    let x = c.args.c in
    ap (λ (n : ℕ). n % 97)
    (sym (onto_none c.args.self x (digit_range x ∙ between_over 48 57 x (omega arith)) (capital_range x ∙ between_over 65 90 x (omega arith)) (small_range x ∙ between_under 97 122 x (omega arith))))

pub returns-in_default-4 : goal.returns-in_default-4
returns-in_default-4 c =
    let x = c.args.c in
    ap (λ (n : ℕ). n % 97)
    (sym (onto_none c.args.self x (digit_range x ∙ between_over 48 57 x (omega arith)) (capital_range x ∙ between_over 65 90 x (omega arith)) (small_range x ∙ between_over 97 122 x (omega arith))))
