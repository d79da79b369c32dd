-- `reader::skip` meets its contract.
use native.Mathlib.Omega.{arith}
use Rattle.notes.specs.Steps.{stated}
use Rattle.engine.proofs.Steps.{spaces_fit, skips}
use Rattle.reader.proofs.skip.Goals as goal

pub overflow_add-at : goal.overflow_add-at
overflow_add-at c = omega (arith, spaces_fit c.args.m.now c.args.st.at c.spaces-n.result c.requires.within c.spaces-n.ensures)

pub overflow_cast-at-2 : goal.overflow_cast-at-2
overflow_cast-at-2 c =
    let a = c.args in
    let the-pre = c.requires in
    omega (arith, spaces_fit a.m.now a.st.at c.spaces-n.result the-pre.within c.spaces-n.ensures, the-pre.small)

pub returns : goal.returns
returns c =
    let a = c.args in
    let the-pre = c.requires in
    skips a.m.now (stated a.st) c.spaces-n.result (stated c.at_place.result) (the-pre) c.spaces-n.ensures c.at_place.ensures
