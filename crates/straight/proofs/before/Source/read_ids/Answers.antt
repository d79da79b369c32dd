-- `straight::before::Source::read_ids` meets its contract.
use Rattle.std.proofs.Common.{[], refl}
use Rattle.straight.specs.Runs.{tags_at, text_at}
use Rattle.profile.specs.declared.Field.TheVariants as field
use Rattle.profile.specs.declared.Simple.TheVariants.{EndToEnd}
use Rattle.profile.specs.declared.Kind.TheVariants.{Plain}
use Rattle.straight.specs.Legs.{begun_legs}
use Rattle.straight.proofs.Ways.{gone_spelled, gone_value, gone_join}
use Rattle.straight.proofs.before.Source.read_ids.Goals as goal

pub returns : goal.returns
unfolding text_at
returns c =
    let a = c.args in
    let m = a.self.m.now in
    let e = c.in_ok-e in
    let v = c.in_ok-a in
    let z = c.in_ok-z in (
      (
        e.ensures.0.0,
        e.ensures.0.1.within,
        gone_join m (begun_legs e.e.first) _ a.at e.e.at z.z e.ensures.0.1
            (gone_value m (Plain EndToEnd) field.EndToEndId 0 0 e.e.at v.a (tags_at 3) z.z [] z.z refl tt v.ensures z.ensures.0
            (gone_spelled m v.a _ z.z z.ensures.0)),
      ),
      z.ensures.1,
    )
