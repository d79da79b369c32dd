-- `judge::finish` meets its contract.
use mathlib.Core.Path.{◌∙◌}
use native.Mathlib.Omega.{arith}
use Rattle.notes.specs.Steps.{stated}
use Rattle.judge.proofs.Begins.{spaces_within, skipped_is}
use Rattle.judge.proofs.Ends.{bytes_left, none_left}
use Rattle.judge.proofs.finish.Goals as goal

pub overflow_add-end : goal.overflow_add-end
overflow_add-end c = omega (arith, spaces_within c.args.m.now c.args.st.at c.spaces.result c.requires c.spaces.ensures)

pub returns-then-end-m : goal.returns-then-end-m
returns-then-end-m c =
    let a = c.args in
    rw c.at.ensures (bytes_left a.m.now (stated a.st) _ (skipped_is a.m.now a.st.at c.spaces.result c.spaces.ensures) c.if-end-m.true)

pub returns : goal.returns
returns c =
    let a = c.args in
    c.compare.ensures ∙ none_left a.m.now (stated a.st) _ (skipped_is a.m.now a.st.at c.spaces.result c.spaces.ensures) c.if-end-m.false
