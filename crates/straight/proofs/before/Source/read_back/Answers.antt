-- `straight::before::Source::read_back` meets its contract.
use Rattle.straight.specs.declared.between.Side.TheVariants.{Debtor}
use Rattle.straight.specs.Legs.{mandate_legs, creditor_legs, party_legs, last_legs}
use Rattle.straight.proofs.Ways.{gone_join}
use Rattle.straight.proofs.before.Source.read_back.Goals as goal

pub returns : goal.returns
returns c =
    let a = c.args in
    let m = a.self.m.now in
    let d = c.in_ok-a in
    let k = c.in_ok-c in
    let q = c.in_ok-e in
    let z = c.in_ok-f in
    let s = k.c in
    let r = z.f.at in
    let w = k.ensures.0.0 in (
      (
        record {
          end = z.ensures.0.1.within;
          signed = d.ensures.0.0;
          identifier = w.identifier;
          scheme = w.scheme;
          creditor = w.name;
          account = w.account;
          agent = w.agent;
          debtor = w.end;
          debited = q.ensures.0.0;
          bank = q.ensures.0.1.within;
          text = z.ensures.0.0;
        },
        gone_join m (mandate_legs a.at d.a.noted) _ a.at d.a.at r d.ensures.0.1
            (gone_join m (creditor_legs a.self.v s.identifier s.scheme s.name s.account s.agent) _ d.a.at s.at r k.ensures.0.1
            (gone_join m (party_legs Debtor a.self.v s.at q.e.noted) (last_legs a.self.v q.e.at z.f.noted) s.at q.e.at r q.ensures.0.1 z.ensures.0.1)),
      ),
      z.ensures.1,
    )
