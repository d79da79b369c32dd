-- `straight::before::Source::kind` meets its contract.
use Rattle.std.proofs.Common.{false, sym, arith}
use Rattle.std.proofs.lemmas.Option.{IfSome_then}
use Rattle.straight.proofs.Owed.{type_none, said_there, not_said, follows_absent}
use Rattle.straight.proofs.before.Source.kind.Goals as goal

pub returns-then-eq : goal.returns-then-eq
returns-then-eq c =
    let a = c.args in
    let m = a.self.m.now in
    let v = c.in_ok-a in
    let z = c.no_type in (
      IfSome_then z.result z.ensures.0 (λ r e. (
        record { end = e.0.within; level = omega (arith, e.1); service = omega (arith, e.2); sequence = omega (arith, e.3); listed = omega (arith, e.4) },
        type_none m a.at v.a r.level r.service r.sequence r.listed r.at e.1 v.ensures e.0,
        follows_absent a.said a.first r.level r.listed e.1 (said_there a.said (sym c.if-eq.ensures)),
      )),
      z.ensures.1,
    )

pub returns : goal.returns
returns c =
    let a = c.args in
    let m = a.self.m.now in
    let v = c.in_ok-a in
    let z = c.no_type-2 in (
      IfSome_then z.result z.ensures.0 (λ r e. (
        record { end = e.0.within; level = omega (arith, e.1); service = omega (arith, e.2); sequence = omega (arith, e.3); listed = omega (arith, e.4) },
        type_none m a.at v.a r.level r.service r.sequence r.listed r.at e.1 v.ensures e.0,
        follows_absent a.said a.first r.level r.listed e.1 (not_said a.said false (sym c.if-eq-2.ensures)),
      )),
      z.ensures.1,
    )
