-- `straight::before::Source::begin` meets its contract.
use Rattle.std.proofs.Common.{[], refl, arith}
use Rattle.straight.proofs.Owed.{begun_with}
use Rattle.straight.specs.Runs.{tags_at, text_at}
use Rattle.profile.specs.declared.Field.TheVariants as field
use Rattle.profile.specs.declared.Simple.TheVariants.{Reference}
use Rattle.profile.specs.declared.Kind.TheVariants.{Plain}
use Rattle.straight.proofs.Ways.{gone_spelled, gone_tags, gone_value}
use Rattle.straight.proofs.before.Source.begin.Goals as goal

pub returns-in-Some : goal.returns-in-Some
unfolding text_at
returns-in-Some c =
    let a = c.args in
    let m = a.self.m.now in
    let z = c.in-Some.e in
    let e = rw c.in-Some.is at c.as_before.ensures in
    ((omega arith, gone_tags m a.at (tags_at 1) z [] z refl e (gone_spelled m a.at _ z e)), c.requires.2)

pub returns-in_default-run : goal.returns-in_default-run
unfolding text_at
returns-in_default-run c =
    let a = c.args in
    let m = a.self.m.now in
    let z = c.in_ok-z in
    ((omega arith, gone_tags m a.at (tags_at 1) z.z [] z.z refl z.ensures.0 (gone_spelled m a.at _ z.z z.ensures.0)), z.ensures.1)

pub returns : goal.returns
unfolding text_at
returns c =
    let a = c.args in
    let m = a.self.m.now in
    let p = c.in-Some-run.a in
    let r = rw c.in-Some-run.is at c.run.ensures.0 in
    let v = c.in_ok-b in
    let z = c.in_ok-z-2 in (
      (
        r.within,
        begun_with m a.at p z.z (omega (arith, r.from))
            (gone_tags m a.at (tags_at 0) p _ z.z refl r
            (gone_value m (Plain Reference) field.InstrId 0 0 p v.b (tags_at 2) z.z [] z.z refl tt v.ensures z.ensures.0
            (gone_spelled m v.b _ z.z z.ensures.0))),
      ),
      z.ensures.1,
    )
