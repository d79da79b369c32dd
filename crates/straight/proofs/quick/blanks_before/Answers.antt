-- `straight::quick::blanks_before` meets its contract.
use Rattle.std.proofs.Common.{sym, ◌∙◌, arith}
use Rattle.straight.proofs.Spelled.{white_few}
use Rattle.straight.proofs.quick.blanks_before.Goals as goal

pub returns-then-m-p-eq60 : goal.returns-then-m-p-eq60
returns-then-m-p-eq60 c =
    let a = c.args in
    let w = c.one-w in
    (omega (arith, w.ensures.0), (λ h. omega arith), white_few a.m.now a.p w.result (omega (arith, c.requires)) w.ensures.0 (λ h. sym c.is_white.ensures ∙ w.ensures.1 h))
