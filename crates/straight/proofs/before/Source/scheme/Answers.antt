-- `straight::before::Source::scheme` meets its contract.
use Rattle.std.proofs.Common.{[], refl}
use Rattle.straight.specs.Runs.{tags_at, text_at}
use Rattle.profile.specs.declared.Field.TheVariants as field
use Rattle.codes.specs.declared.Element.TheVariants as code
use Rattle.profile.specs.declared.Simple.TheVariants.{Identifier}
use Rattle.profile.specs.declared.Kind.TheVariants.{Plain, Code}
use Rattle.straight.proofs.Ways.{gone_spelled, gone_value}
use Rattle.straight.proofs.before.Source.scheme.Goals as goal

pub returns : goal.returns
unfolding text_at
returns c =
    let a = c.args in
    let m = a.self.m.now in
    let v1 = c.in_ok-a in
    let r1 = c.in_ok-b in
    let v2 = c.in_ok-c in
    let z = c.in_ok-z in (
      (
        r1.ensures.0.within,
        gone_value m (Plain Identifier) field.CdtrId 0 0 a.at v1.a (tags_at 14) r1.b _ z.z refl tt v1.ensures r1.ensures.0
            (gone_value m (Code code.Prtry) field.Prtry v2.c.worth 0 r1.b v2.c.at (tags_at 15) z.z [] z.z refl tt v2.ensures.1 z.ensures.0
            (gone_spelled m v2.c.at _ z.z z.ensures.0)),
      ),
      z.ensures.1,
    )
