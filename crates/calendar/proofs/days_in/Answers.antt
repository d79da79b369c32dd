-- `calendar::days_in` meets its contract.
use mathlib.Core.Path.{ap, sym}
use borrow.Author.Tests.{ne_eqb}
use mathlib.Core.Logic.{inl, inr}
use native.Mathlib.Omega.{arith}
use Rattle.text.proofs.Truths.{tests, yes_of, no_of}
use Rattle.calendar.specs.Date.{days_in}
use Rattle.calendar.proofs.days_in.Goals as goal

pub returns-in-2 : goal.returns-in-2
unfolding days_in
returns-in-2 c = search (tests, yes_of c.is_leap.ensures)

pub returns-in-2-2 : goal.returns-in-2-2
unfolding days_in
returns-in-2-2 c = search (tests, no_of c.is_leap.ensures)

pub returns-in-4 : goal.returns-in-4
unfolding days_in
returns-in-4 c =
    let y = c.args.y in
    elim c.in-4.is [
      | inl e ↦ sym (ap (days_in y) e)
      | inr r ↦ elim r [ inl e ↦ sym (ap (days_in y) e) | inr t ↦ elim t [ inl e ↦ sym (ap (days_in y) e) | inr e ↦ sym (ap (days_in y) e) ] ]
    ]

pub returns-in_default : goal.returns-in_default
unfolding days_in
returns-in_default c =
    let m = c.args.m in
    simp (ne_eqb m 2 (grind arith), ne_eqb m 4 (grind arith), ne_eqb m 6 (grind arith), ne_eqb m 9 (grind arith), ne_eqb m 11 (grind arith))
