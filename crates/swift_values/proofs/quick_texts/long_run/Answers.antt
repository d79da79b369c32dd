-- `swift_values::quick_texts::long_run` meets its contract.
use native.Mathlib.Omega.{arith}
use mathlib.Core.Path.{◌≡◌}
use Rattle.swift_values.specs.Lanes.{text_one}
use Rattle.swift_values.proofs.Lanes.{run_of}
use Rattle.swift_values.proofs.Values.{run_join}
use Rattle.swift_values.proofs.quick_texts.long_run.Goals as goal

pub returns-then-n-lt32 : goal.returns-then-n-lt32
returns-then-n-lt32 g c = (omega arith, run_of _ _ _ text_one c.requires.text _ c.passing-n.ensures.1)

pub returns-then-k-lt64 : goal.returns-then-k-lt64
returns-then-k-lt64 g c =
    let a = c.args in
    let first = run_of _ _ _ text_one c.requires.text _ c.passing-n.ensures.1 in
    let z : c.passing-n.result ≡ 32 = omega arith in
    (omega arith, run_join text_one a.m.now a.at 32 c.text_run-k.result (rw z at first) c.text_run-k.ensures.1)

pub returns : goal.returns
returns g c =
    let a = c.args in
    let first = run_of _ _ _ text_one c.requires.text _ c.passing-n.ensures.1 in
    let z : c.passing-n.result ≡ 32 = omega arith in
    let y : c.text_run-k.result ≡ 64 = omega arith in
    let two = run_join text_one a.m.now a.at 32 64 (rw z at first) (rw y at c.text_run-k.ensures.1) in
    (omega arith, run_join text_one a.m.now a.at 96 c.text_run.result two c.text_run.ensures.1)
