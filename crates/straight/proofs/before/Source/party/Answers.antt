-- `straight::before::Source::party` meets its contract.
use Rattle.std.proofs.Common.{[]}
use Rattle.straight.proofs.Owed.{iban_tags, bic_tags}
use Rattle.straight.specs.Runs.{tags_at, text_at}
use Rattle.profile.specs.declared.Simple.TheVariants.{Text70, Iban}
use Rattle.profile.specs.declared.Kind.TheVariants.{Plain}
use Rattle.straight.specs.Legs.{name_of, iban_of, to_iban, to_bic}
use Rattle.straight.proofs.Ways.{gone_spelled, gone_value}
use Rattle.straight.proofs.before.Source.party.Goals as goal

pub returns : goal.returns
unfolding text_at
returns c =
    let a = c.args in
    let m = a.self.m.now in
    let v1 = c.in_ok-a in
    let r1 = c.in_ok-b in
    let v2 = c.in_ok-c in
    let z = c.in_ok-z in (
      (
        r1.ensures.0.within,
        gone_value m (Plain Text70) (name_of a.s) 0 0 a.at v1.a (tags_at (to_iban a.s)) r1.b _ z.z (iban_tags a.s) tt v1.ensures
            (rw c.to_iban.ensures.0 at r1.ensures.0)
            (gone_value m (Plain Iban) (iban_of a.s) 0 0 r1.b v2.c (tags_at (to_bic a.s a.self.v)) z.z [] z.z (bic_tags a.s a.self.v) tt v2.ensures
            (rw c.to_bic.ensures.0 at z.ensures.0) (gone_spelled m v2.c _ z.z z.ensures.0)),
      ),
      z.ensures.1,
    )
