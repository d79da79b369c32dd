-- `records::make_record` meets its contract: the parts of the record one behind the other, and the record written.
use mathlib.Core.Path.{◌∙◌, ap}
use Rattle.profile.specs.declared.Field.TheVariants.{LclInstrm, SeqTp}
use Rattle.records.specs.Engine.{start_of, own_or}
use Rattle.records.proofs.Fields.{whole}
use Rattle.records.proofs.make_record.Goals as goal

pub returns : goal.returns
returns c =
    let a = c.args in
    c.copy_from_slice.ensures.after
    ∙ whole a.m.now a.row.now a.above
    (c.or_above-sequence.ensures ∙ ap (own_or (start_of a.above SeqTp)) c.row_start.ensures)
    (c.or_above-instrument.ensures ∙ ap (own_or (start_of a.above LclInstrm)) c.row_start-2.ensures)
    c.put_to_cents.ensures c.put_to_instr_id.ensures c.put_to_end.ensures
