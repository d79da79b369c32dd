-- `straight::before::Source::read_front` meets its contract.
use Rattle.straight.specs.Legs.{ids_legs, type_legs, terms_legs}
use Rattle.straight.proofs.Ways.{gone_join}
use Rattle.straight.proofs.before.Source.read_front.Goals as goal

pub returns : goal.returns
returns c =
    let a = c.args in
    let m = a.self.m.now in
    let i = c.in_ok-a in
    let k = c.in_ok-b in
    let t = c.in_ok-c in
    let y = type_legs i.a.at k.b.level k.b.service k.b.sequence k.b.listed in
    let z = terms_legs k.b.at t.c.cents t.c.charge t.c.collected in
    let w = k.ensures.0.0 in (
      (
        record {
          end = t.ensures.0.3.within;
          instr = i.ensures.0.0;
          ends = i.ensures.0.1;
          tx = i.ensures.0.2.within;
          level = w.level;
          service = w.service;
          sequence = w.sequence;
          listed = w.listed;
          amount = w.end;
          cents = t.ensures.0.2;
          charge = t.ensures.0.0;
          collected = t.ensures.0.1;
        },
        gone_join m (ids_legs i.a.first i.a.ends) _ a.at i.a.at t.c.at i.ensures.0.2
            (gone_join m y z i.a.at k.b.at t.c.at k.ensures.0.1 t.ensures.0.3),
        k.ensures.0.2,
      ),
      t.ensures.1,
    )
