-- `swift_values::quick_texts::text_run` meets its contract.
use Rattle.std.proofs.Common.{rules}
use native.Mathlib.Omega.{arith}
use mathlib.Core.Path.{◌≡◌}
use Rattle.swift_values.specs.Lanes.{text_one}
use Rattle.swift_values.proofs.Lanes.{run_of}
use Rattle.swift_values.proofs.Values.{run_join}
use Rattle.swift_values.proofs.quick_texts.text_run.Goals as goal

pub returns-then-n-lt32 : goal.returns-then-n-lt32
returns-then-n-lt32 c = (omega arith, run_of _ _ _ text_one (λ b x e. search rules) _ c.passing-n.ensures.1)

pub returns : goal.returns
returns c =
    let a = c.args in
    let first = run_of _ _ _ text_one (λ b x e. search rules) _ c.passing-n.ensures.1 in
    let second = run_of _ _ _ text_one (λ b x e. search rules) _ c.passing.ensures.1 in
    let z : c.passing-n.result ≡ 32 = omega arith in
    (omega arith, run_join text_one a.m.now a.at 32 c.passing.result (rw z at first) second)
