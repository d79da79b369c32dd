-- `recording::read_line` meets its contract.
use Rattle.std.proofs.Common.{rules, sym}
use Rattle.text.proofs.Truths.{never, yes_of, no_of}
use Rattle.recording.specs.Record.{line_of}
use Rattle.recording.proofs.Fields.{long_record, long_time, stamped, sided, line_is}
use Rattle.recording.proofs.read_line.Goals as goal

pub returns-then-not-is_record : goal.returns-then-not-is_record
unfolding line_of
returns-then-not-is_record c = rw (no_of c.is_record.ensures c.if-not-is_record.true)

pub bounds-r-25 : goal.bounds-r-25
bounds-r-25 c =
    let h = long_record _ (yes_of c.is_record.ensures c.if-not-is_record.false) in search rules

pub key_in-requires : goal.key_in-requires
key_in-requires c = long_record _ (yes_of c.is_record.ensures c.if-not-is_record.false)

pub slice_bounds-instant_of-end : goal.slice_bounds-instant_of-end
slice_bounds-instant_of-end c = sym (long_time _ (yes_of c.is_record.ensures c.if-not-is_record.false))

pub instant_of-requires : goal.instant_of-requires
instant_of-requires c = (long_time _ (yes_of c.is_record.ensures c.if-not-is_record.false), stamped _ (yes_of c.is_record.ensures c.if-not-is_record.false))

pub returns-in_err-side_of : goal.returns-in_err-side_of
returns-in_err-side_of c =
    let h = sided _ (yes_of c.is_record.ensures c.if-not-is_record.false) in
    let g = c.in_err-side_of.ensures.named in never (cc)

pub returns : goal.returns
returns c =
    line_is _ (yes_of c.is_record.ensures c.if-not-is_record.false) _ c.in_ok-side_of.ensures.side _ _ c.key_in.ensures c.instant_of.ensures
