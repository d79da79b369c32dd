-- `straight::before::Source::charged_again` meets its contract.
use Rattle.std.proofs.Common.{refl, arith}
use Rattle.straight.specs.Legs.{charged_legs}
use Rattle.straight.specs.Kept.{ChargedGone}
use Rattle.straight.proofs.Kept.{gone_reach, stretch_again}
use Rattle.straight.proofs.before.Source.charged_again.Goals as goal

pub returns : goal.returns
returns c =
    let a = c.args in
    let m = a.self.m.now in
    let s = c.in_ok-from.field-0 in
    let z = c.in_ok-z in
    let k : ChargedGone m s.from s.found = rw c.in_ok-from.was at c.requires.1.charged in
    let g = stretch_again m s.from s.found.at a.at z.z (charged_legs s.found.charge s.found.collected) refl k z.ensures.1 in
    let t = gone_reach m a.at _ z.z g in
    (omega (arith, g.within, t.1), omega (arith, g.within, t.2.1), g)
