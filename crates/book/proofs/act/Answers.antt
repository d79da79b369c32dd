-- `book::act` meets its contract.
use Rattle.std.proofs.Common.{arith, refl, sym, ◌∙◌}
use Rattle.std.proofs.lemmas.Result.{err_from_is_err_and}
use Rattle.book.specs.Calls.{unfit}
use Rattle.book.specs.Code.{in_range, call_as, book_of}
use Rattle.book.proofs.Answers.{known, sums, err_kept, other_kept, stored_sums, enter_kept, withdraw_kept}
use Rattle.book.proofs.act.Goals as goal

pub returns-in_err-check : goal.returns-in_err-check
returns-in_err-check c =
    let p = err_from_is_err_and c.from_residual.result c.from_residual.ensures.1 in
    rw (p.1, p.2) (err_kept c.args.entries.now c.args.numbers.now (call_as c.args.call) c.in_err-check.field-0.0 c.in_err-check.ensures)

pub returns-then-branch-numbers : goal.returns-then-branch-numbers
returns-then-branch-numbers c =
    let l = c.args.entries.now in
    let s = c.args.numbers.now in
    rw c.at.ensures (other_kept l s (call_as c.args.call) c.in_ok-check.field-0 (sums l s.opened _ c.in_ok-check.ensures) c.if-branch-numbers.true)

pub enter-requires : goal.enter-requires
enter-requires c =
    let l = c.args.entries.now in
    let s = c.args.numbers.now in
    let i = sums l s.opened _ c.in_ok-check.ensures in
    let k = known (book_of l s.opened) i.one in
    record { room = k.room; few = k.few; within = omega (arith, i.sum, k.within) }

pub withdraw-requires : goal.withdraw-requires
withdraw-requires c =
    let l = c.args.entries.now in
    let s = c.args.numbers.now in
    let i = sums l s.opened _ c.in_ok-check.ensures in
    let k = known (book_of l s.opened) i.one in
    record { room = k.room; few = k.few; sum = sym c.if-branch-numbers.false ∙ i.sum }

pub returns-in-Enter : goal.returns-in-Enter
returns-in-Enter c =
    let l = c.args.entries.now in
    let s = c.args.numbers.now in
    let i = sums l s.opened _ c.in_ok-check.ensures in
    rw (c.in-Enter.is, ← enter_kept l s (stored_sums l s c.in_ok-check.field-0 c.if-branch-numbers.false i) (in_range c.in-Enter.e)) c.enter.ensures

pub returns-in-Withdraw : goal.returns-in-Withdraw
returns-in-Withdraw c =
    let l = c.args.entries.now in
    let s = c.args.numbers.now in
    let i = sums l s.opened _ c.in_ok-check.ensures in
    rw (c.in-Withdraw.is, ← withdraw_kept l s (stored_sums l s c.in_ok-check.field-0 c.if-branch-numbers.false i) c.in-Withdraw.key) c.withdraw.ensures

pub returns-in-Unfit : goal.returns-in-Unfit
returns-in-Unfit c =
    let l = c.args.entries.now in
    let s = c.args.numbers.now in
    let i = sums l s.opened _ c.in_ok-check.ensures in
    rw (c.in-Unfit.is, ← enter_kept l s (stored_sums l s c.in_ok-check.field-0 c.if-branch-numbers.false i) (unfit _ _)) refl
