-- `swift_values::quick_identifiers::leaves_18` meets its contract.
use native.Mathlib.Omega.{arith}
use mathlib.Core.Path.{refl}
use Prim.Native.Nat.{◌+◌}
use Rattle.text.specs.Classes.{digit}
use Rattle.swift_values.proofs.Blocks.{all_part}
use Rattle.swift_values.proofs.Weights.{usual_leaves}
use Rattle.swift_values.proofs.quick_identifiers.leaves_18.Goals as goal

pub opening-h-requires : goal.opening-h-requires
opening-h-requires c = omega arith

pub row-a-requires : goal.row-a-requires
row-a-requires c =
    let the-args = c.args in
    (omega arith, all_part digit the-args.m.now (the-args.p + 7) 11 (the-args.p + 7) 8 c.requires.1 (omega arith) (omega arith), refl)

pub row-b-requires : goal.row-b-requires
row-b-requires c =
    let the-args = c.args in
    (omega arith, all_part digit the-args.m.now (the-args.p + 7) 11 (the-args.p + 10) 8 c.requires.1 (omega arith) (omega arith), refl)

pub overflow_add-result : goal.overflow_add-result
overflow_add-result c = omega arith

pub overflow_add-result-2 : goal.overflow_add-result-2
overflow_add-result-2 c = omega arith

pub overflow_add-result-3 : goal.overflow_add-result-3
overflow_add-result-3 c = omega arith

pub returns : goal.returns
returns c =
    let the-args = c.args in
    let the-pre = c.requires in
    let the-opening = c.opening-h in
    usual_leaves the-args.m.now the-args.p the-pre.0 the-pre.1 the-pre.2 c.row-a.result c.row-b.result the-opening.result
    c.row-a.ensures.0 c.row-b.ensures.0 the-opening.ensures.0
