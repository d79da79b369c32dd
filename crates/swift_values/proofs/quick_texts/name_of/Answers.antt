-- `swift_values::quick_texts::name_of` meets its contract.
use Rattle.words.specs.declared.Field.TheVariants.{Nm as a_nm}
use Rattle.profile.specs.declared.Simple.TheVariants.{Text70}
use Rattle.swift_values.proofs.Lanes.{and_split}
use Rattle.swift_values.proofs.Parts.{differs}
use Rattle.swift_values.proofs.Values.{text_stands, name_is}
use Rattle.swift_values.proofs.quick_texts.name_of.Goals as goal

pub returns-then-ended-m : goal.returns-then-ended-m
returns-then-ended-m c =
    let h = c.requires in
    let x = and_split c.ended.result _ c.if-ended-m.true in
    let e = c.ended.ensures x.0 in
    text_stands a_nm c.args.m.now c.args.at c.args.n h.1 h.3 e.1 h.0 e.0 h.2 (differs _ _ x.1) Text70 (name_is _)
