-- `straight::before::Source::charged_anew` meets its contract.
use Rattle.std.proofs.Common.{[], refl}
use Rattle.straight.specs.Runs.{tags_at, text_at}
use Rattle.profile.specs.declared.Field.TheVariants as field
use Rattle.codes.specs.declared.Element.TheVariants as code
use Rattle.profile.specs.declared.Simple.TheVariants.{Date}
use Rattle.profile.specs.declared.Kind.TheVariants.{Plain, Code}
use Rattle.straight.proofs.Ways.{gone_spelled, gone_value, gone_open}
use Rattle.straight.proofs.before.Source.charged_anew.Goals as goal

pub returns : goal.returns
unfolding text_at
returns c =
    let a = c.args in
    let m = a.self.m.now in
    let o = c.tag_at.ensures c.if-not-tag_at.false in
    let r1 = c.in_ok-b in
    let v2 = c.in_ok-c in
    let r2 = c.in_ok-d in
    let v3 = c.in_ok-e in
    let z = c.in_ok-z in (
      (
        r1.ensures.0.within,
        r2.ensures.0.within,
        gone_open m a.at (tags_at 9) r1.b _ z.z refl o.1 r1.ensures.0
            (gone_value m (Code code.ChrgBr) field.ChrgBr v2.c.worth 0 r1.b v2.c.at (tags_at 10) r2.d _ z.z refl tt v2.ensures.1 r2.ensures.0
            (gone_value m (Plain Date) field.ReqdColltnDt 0 0 r2.d v3.e (tags_at 11) z.z [] z.z refl tt v3.ensures z.ensures.0
            (gone_spelled m v3.e _ z.z z.ensures.0))),
      ),
      z.ensures.1,
    )
