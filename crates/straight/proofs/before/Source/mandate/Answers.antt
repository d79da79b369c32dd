-- `straight::before::Source::mandate` meets its contract.
use Rattle.std.proofs.Common.{[], refl, arith}
use Rattle.straight.specs.Runs.{tags_at, text_at}
use Rattle.profile.specs.declared.Field.TheVariants as field
use Rattle.profile.specs.declared.Simple.TheVariants.{Reference, Date}
use Rattle.profile.specs.declared.Kind.TheVariants.{Plain}
use Rattle.straight.proofs.Ways.{gone_here, gone_value, gone_held}
use Rattle.straight.proofs.before.Source.mandate.Goals as goal

pub returns : goal.returns
unfolding text_at
returns c =
    let a = c.args in
    let m = a.self.m.now in
    let v1 = c.in_ok-a in
    let r1 = c.in_ok-b in
    let z = c.in_ok-z in (
      (
        r1.ensures.0.within,
        gone_value m (Plain Reference) field.MndtId 0 0 a.at v1.a (tags_at 12) r1.b _ z.z refl tt v1.ensures r1.ensures.0
            (gone_held m (Plain Date) field.DtOfSgntr 0 0 r1.b z.z [] z.z tt z.ensures (gone_here m z.z (omega (arith, z.ensures.some, z.ensures.from)) (omega (arith, z.ensures.behind)))),
      ),
      r1.ensures.1,
    )
