-- `straight::before::Source::typed_again` meets its contract.
use Rattle.std.proofs.Common.{◌≤◌, sym, ◌∙◌, refl, arith}
use Rattle.straight.specs.Legs.{typed_legs}
use Rattle.straight.specs.Kept.{TypedGone}
use Rattle.straight.proofs.Kept.{gone_reach, stretch_again}
use Rattle.straight.proofs.before.Source.typed_again.Goals as goal

pub returns : goal.returns
returns c =
    let a = c.args in
    let m = a.self.m.now in
    let s = c.in_ok-from.field-0 in
    let z = c.in_ok-z in
    let k : TypedGone m s.from s.found × (s.found.listed ≤ 4) = rw c.in_ok-from.was at c.requires.1.typed in
    let g = stretch_again m s.from s.found.at a.at z.z (typed_legs s.found.level s.found.service s.found.sequence s.found.listed) refl k.0 z.ensures.1 in
    let t = gone_reach m a.at _ z.z g in (
      record { end = g.within; level = omega (arith, g.within, t.1); service = omega (arith, g.within, t.2.1); sequence = omega (arith, g.within, t.2.2.1); listed = k.1 },
      g,
      sym c.may_follow.ensures ∙ c.if-not-may_follow.false,
    )
