-- `accounts::is_seventh` meets its contract.
use mathlib.Core.Path.{sym, ap, ◌∙◌}
use mathlib.Core.Bool.{Bool}
use Rattle.text.specs.Truth.{either, between}
use Rattle.text.specs.Classes.{in_class}
use Rattle.text.proofs.Truths.{yes_of, no_of}
use Rattle.text.proofs.Chains.{range_between}
use Rattle.accounts.proofs.Forms.{seventh_is}
use Rattle.accounts.proofs.is_seventh.Goals as goal

pub returns-then-is_in : goal.returns-then-is_in
unfolding in_class
returns-then-is_in c =
    let x = c.args.c in
    c.if-is_in.true ∙ sym (seventh_is x ∙ ap (λ (b : Bool). either b (between 50 57 x)) (yes_of c.is_in.ensures c.if-is_in.true))

pub returns-else-is_in : goal.returns-else-is_in
unfolding in_class
returns-else-is_in c =
    let x = c.args.c in
    let r = c.new.ensures in
    c.contains.ensures.value ∙ range_between _ _ _ x r.start r.end r.exhausted
    ∙ sym (seventh_is x ∙ ap (λ (b : Bool). either b (between 50 57 x)) (no_of c.is_in.ensures c.if-is_in.false))
