-- `straight::before::Source::agent` meets its contract.
use Rattle.std.proofs.Common.{[]}
use Rattle.std.proofs.lemmas.Option.{IfSome_then}
use Rattle.profile.specs.Profile.{bic_kind}
use Rattle.straight.proofs.Owed.{debtor_tags, bic_noted}
use Rattle.straight.specs.Runs.{tags_at, text_at}
use Rattle.profile.specs.declared.Field.TheVariants as field
use Rattle.straight.specs.Legs.{to_debtor}
use Rattle.straight.proofs.Ways.{gone_spelled, gone_value}
use Rattle.straight.proofs.before.Source.agent.Goals as goal

pub returns : goal.returns
unfolding text_at
returns c =
    let a = c.args in
    let m = a.self.m.now in
    let v = c.in_ok-a in
    let z = c.run in
    let w = rw c.by_version.ensures.0 at z.ensures.0 in (
      IfSome_then z.result w (λ r e.
          gone_value m (bic_kind a.self.v) field.CdtrBic 0 0 a.at v.a (tags_at (to_debtor a.self.v)) r [] r (debtor_tags a.self.v) (bic_noted a.self.v) v.ensures e (gone_spelled m v.a _ r e)),
      z.ensures.1,
    )
