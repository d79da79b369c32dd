-- `accounts::is_eighth` meets its contract.
use mathlib.Core.Path.{sym, ap, ◌∙◌}
use mathlib.Core.Bool.{Bool, false, not}
use borrow.Author.Tests.{eq-eqb, ne_eqb}
use Rattle.text.specs.Truth.{pick}
use Rattle.text.specs.Classes.{in_class, capital_or_digit}
use Rattle.accounts.proofs.Forms.{eighth_is}
use Rattle.accounts.proofs.is_eighth.Goals as goal

pub returns-then-c-ne79 : goal.returns-then-c-ne79
unfolding in_class
returns-then-c-ne79 c =
    let x = c.args.c in
    sym (eighth_is x ∙ ap (λ (b : Bool). pick b false (capital_or_digit x)) (ne_eqb x 79 c.if-c-ne79.true) ∙ sym c.is_in.ensures)

pub returns-else-c-ne79 : goal.returns-else-c-ne79
returns-else-c-ne79 c =
    let x = c.args.c in
    let e = eq-eqb x 79 c.if-c-ne79.false in
    ap not e ∙ sym (eighth_is x ∙ ap (λ (b : Bool). pick b false (capital_or_digit x)) e)
