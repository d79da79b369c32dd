-- `straight::before::Source::creditor_again` meets its contract.
use Rattle.std.proofs.Common.{refl, arith}
use Rattle.straight.specs.Legs.{creditor_legs}
use Rattle.straight.specs.Kept.{CreditorGone}
use Rattle.straight.proofs.Kept.{gone_reach, stretch_again}
use Rattle.straight.proofs.before.Source.creditor_again.Goals as goal

pub returns : goal.returns
returns c =
    let a = c.args in
    let m = a.self.m.now in
    let s = c.in_ok-from.field-0 in
    let r = s.found in
    let z = c.in_ok-z in
    let k : CreditorGone m a.self.v s.from s.found = rw c.in_ok-from.was at c.requires.1.creditor in
    let g = stretch_again m s.from r.at a.at z.z (creditor_legs a.self.v r.identifier r.scheme r.name r.account r.agent) refl k z.ensures.1 in
    let t = gone_reach m a.at _ z.z g in (
      record {
        end = g.within;
        identifier = omega (arith, g.within, t.1);
        scheme = omega (arith, g.within, t.2.1);
        name = omega (arith, g.within, t.2.2.1);
        account = omega (arith, g.within, t.2.2.2.1);
        agent = omega (arith, g.within, t.2.2.2.2.1);
      },
      g,
    )
