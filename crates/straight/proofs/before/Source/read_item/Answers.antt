-- `straight::before::Source::read_item` meets its contract.
use Rattle.straight.specs.Legs.{front_legs, back_legs}
use Rattle.straight.proofs.Ways.{gone_join}
use Rattle.straight.proofs.before.Source.read_item.Goals as goal

pub returns : goal.returns
returns c =
    let a = c.args in
    let m = a.self.m.now in
    let f = c.in_ok-front in
    let z = c.in_ok-back in
    let ls = back_legs a.self.v f.front.at z.back in
    ((f.ensures.0.0, z.ensures.0.0, gone_join m (front_legs f.front) ls a.at f.front.at z.back.at f.ensures.0.1 z.ensures.0.1, f.ensures.0.2), z.ensures.1)
