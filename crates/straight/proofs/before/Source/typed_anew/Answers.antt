-- `straight::before::Source::typed_anew` meets its contract.
use Rattle.std.proofs.Common.{sym, ◌∙◌, [], refl}
use Rattle.straight.specs.Runs.{tags_at, text_at}
use Rattle.profile.specs.declared.Field.TheVariants as field
use Rattle.codes.specs.declared.Element.TheVariants as code
use Rattle.profile.specs.declared.Kind.TheVariants.{Code}
use Rattle.straight.proofs.Ways.{gone_spelled, gone_value, gone_open}
use Rattle.straight.proofs.before.Source.typed_anew.Goals as goal

pub returns : goal.returns
unfolding text_at
returns c =
    let a = c.args in
    let m = a.self.m.now in
    let o = c.tag_at.ensures c.if-not-tag_at.false in
    let r0 = c.in_ok-p in
    let v1 = c.in_ok-a in
    let r1 = c.in_ok-b in
    let v2 = c.in_ok-c in
    let r2 = c.in_ok-d in
    let v3 = c.in_ok-e in
    let z = c.in_ok-z in (
      (
        record { end = z.ensures.0.within; level = r0.ensures.0.within; service = r1.ensures.0.within; sequence = r2.ensures.0.within; listed = v2.ensures.0 },
        gone_open m a.at (tags_at 4) r0.p _ z.z refl o.1 r0.ensures.0
            (gone_value m (Code code.SvcLvl) field.SvcLvl v1.a.worth 0 r0.p v1.a.at (tags_at 6) r1.b _ z.z refl tt v1.ensures.1 r1.ensures.0
            (gone_value m (Code code.LclInstrm) field.LclInstrm v2.c.worth v2.c.worth r1.b v2.c.at (tags_at 7) r2.d _ z.z refl refl v2.ensures.1 r2.ensures.0
            (gone_value m (Code code.SeqTp) field.SeqTp v3.e.worth 0 r2.d v3.e.at (tags_at 8) z.z [] z.z refl tt v3.ensures.1 z.ensures.0
            (gone_spelled m v3.e.at _ z.z z.ensures.0)))),
        sym c.may_follow.ensures ∙ c.if-not-may_follow.false,
      ),
      z.ensures.1,
    )
