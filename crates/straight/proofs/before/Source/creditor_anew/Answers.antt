-- `straight::before::Source::creditor_anew` meets its contract.
use Rattle.std.proofs.Common.{refl}
use Rattle.straight.specs.Runs.{tags_at, text_at}
use Rattle.straight.specs.declared.between.Side.TheVariants.{Creditor}
use Rattle.straight.specs.Legs.{scheme_legs, party_legs, agent_legs}
use Rattle.straight.proofs.Ways.{gone_open, gone_join}
use Rattle.straight.proofs.before.Source.creditor_anew.Goals as goal

pub returns : goal.returns
unfolding text_at
returns c =
    let a = c.args in
    let m = a.self.m.now in
    let o = c.tag_at.ensures c.if-not-tag_at.false in
    let r = c.in_ok-a in
    let s = c.in_ok-b in
    let p = c.in_ok-c in
    let z = c.in_ok-z in (
      (
        record {
          end = z.ensures.0.within;
          identifier = r.ensures.0.within;
          scheme = s.ensures.0.0;
          name = s.ensures.0.1.within;
          account = p.ensures.0.0;
          agent = p.ensures.0.1.within;
        },
        gone_open m a.at (tags_at 13) r.a _ z.z refl o.1 r.ensures.0
            (gone_join m (scheme_legs r.a s.b.noted) _ r.a s.b.at z.z s.ensures.0.1
            (gone_join m (party_legs Creditor a.self.v s.b.at p.c.noted) (agent_legs a.self.v p.c.at) s.b.at p.c.at z.z p.ensures.0.1 z.ensures.0)),
      ),
      z.ensures.1,
    )
