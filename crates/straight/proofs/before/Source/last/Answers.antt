-- `straight::before::Source::last` meets its contract.
use Rattle.std.proofs.Common.{[], refl, arith}
use Rattle.profile.specs.Profile.{bic_kind}
use Rattle.straight.proofs.Owed.{text_tags, end_tags, bic_noted, last_with}
use Rattle.straight.specs.Runs.{tags_at, text_at}
use Rattle.profile.specs.declared.Field.TheVariants as field
use Rattle.profile.specs.declared.Simple.TheVariants.{Text140}
use Rattle.profile.specs.declared.Kind.TheVariants.{Plain}
use Rattle.straight.specs.Legs.{to_text, to_end}
use Rattle.straight.proofs.Ways.{gone_spelled, gone_value}
use Rattle.straight.proofs.before.Source.last.Goals as goal

pub returns-in-Some : goal.returns-in-Some
unfolding text_at
returns-in-Some c =
    let a = c.args in
    let m = a.self.m.now in
    let v = c.in_ok-a in
    let z = c.in-Some.e in
    let e = rw c.in-Some.is at c.as_before.ensures in
    let w = rw c.by_version-to_end.ensures.0 at e in
    ((omega arith, gone_value m (bic_kind a.self.v) field.DbtrBic 0 0 a.at v.a (tags_at (to_end a.self.v)) z [] z (end_tags a.self.v) (bic_noted a.self.v) v.ensures w (gone_spelled m v.a _ z w)), c.requires.2)

pub returns-in_default-run : goal.returns-in_default-run
unfolding text_at
returns-in_default-run c =
    let a = c.args in
    let m = a.self.m.now in
    let v = c.in_ok-a in
    let z = c.in_ok-z in
    let w = rw c.by_version-to_end.ensures.0 at z.ensures.0 in
    ((omega arith, gone_value m (bic_kind a.self.v) field.DbtrBic 0 0 a.at v.a (tags_at (to_end a.self.v)) z.z [] z.z (end_tags a.self.v) (bic_noted a.self.v) v.ensures w (gone_spelled m v.a _ z.z w)), z.ensures.1)

pub returns : goal.returns
unfolding text_at
returns c =
    let a = c.args in
    let m = a.self.m.now in
    let v1 = c.in_ok-a in
    let p = c.in-Some-run.b in
    let r = rw c.in-Some-run.is at c.run.ensures.0 in
    let v2 = c.in_ok-c in
    let z = c.in_ok-z-2 in (
      (
        r.within,
        last_with m a.self.v a.at p z.z (omega (arith, r.from))
            (gone_value m (bic_kind a.self.v) field.DbtrBic 0 0 a.at v1.a (tags_at (to_text a.self.v)) p _ z.z (text_tags a.self.v) (bic_noted a.self.v) v1.ensures
            (rw c.by_version-to_text.ensures.0 at r)
            (gone_value m (Plain Text140) field.Ustrd 0 0 p v2.c (tags_at 28) z.z [] z.z refl tt v2.ensures z.ensures.0
            (gone_spelled m v2.c _ z.z z.ensures.0))),
      ),
      z.ensures.1,
    )
