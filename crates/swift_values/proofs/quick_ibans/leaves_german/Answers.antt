-- `swift_values::quick_ibans::leaves_german` meets its contract.
use native.Mathlib.Omega.{arith}
use mathlib.Core.Path.{refl}
use Prim.Native.Nat.{◌+◌}
use Rattle.text.specs.Classes.{digit}
use Rattle.swift_values.proofs.Blocks.{all_part}
use Rattle.swift_values.proofs.Weights.{german_leaves}
use Rattle.swift_values.proofs.quick_ibans.leaves_german.Goals as goal

pub row-a-requires : goal.row-a-requires
row-a-requires c =
    let the-args = c.args in
    (omega arith, all_part digit the-args.m.now (the-args.p + 2) 20 (the-args.p + 2) 8 c.requires.1 (omega arith) (omega arith), refl)

pub row-b-requires : goal.row-b-requires
row-b-requires c =
    let the-args = c.args in
    (omega arith, all_part digit the-args.m.now (the-args.p + 2) 20 (the-args.p + 10) 8 c.requires.1 (omega arith) (omega arith), refl)

pub row-c-requires : goal.row-c-requires
row-c-requires c =
    let the-args = c.args in
    (omega arith, all_part digit the-args.m.now (the-args.p + 2) 20 (the-args.p + 14) 8 c.requires.1 (omega arith) (omega arith), refl)

pub overflow_add-result : goal.overflow_add-result
overflow_add-result c = omega arith

pub overflow_add-result-2 : goal.overflow_add-result-2
overflow_add-result-2 c = omega arith

pub overflow_add-result-3 : goal.overflow_add-result-3
overflow_add-result-3 c = omega arith

pub returns : goal.returns
returns c =
    let the-args = c.args in
    let the-pre = c.requires in
    german_leaves the-args.m.now the-args.p the-pre.0 the-pre.1 the-pre.2 the-pre.3 c.row-a.result c.row-b.result c.row-c.result
    c.row-a.ensures.0 c.row-b.ensures.0 c.row-c.ensures.0
