-- `judge::read_but` meets its contract.
use mathlib.Core.Path.{◌∙◌, ap, refl}
use borrow.Author.Tests.{lt-ltb, le-ltb}
use Rattle.std.proofs.lemmas.Result.{err_from_is_err_and}
use Rattle.notes.specs.Steps.{stated}
use Rattle.judge.specs.Engine.{concluded_in}
use Rattle.judge.proofs.Judges.{found_long, found_in_lem, noted_none, noted_behind, noted_in, filed_long, filed_read}
use Rattle.judge.proofs.Ends.{fine_at}
use Rattle.judge.proofs.read_but.Goals as goal

pub returns-then-m-gt-MOST_BYTES : goal.returns-then-m-gt-MOST_BYTES
returns-then-m-gt-MOST_BYTES c =
    let m = c.args.m.now in
    let long = lt-ltb _ _ c.if-m-gt-MOST_BYTES.true in
    (rw c.at.ensures (noted_none m 1 0 _ refl (found_long m long)), filed_long m long c.args.places.now)

pub finish-requires : goal.finish-requires
finish-requires c = fine_at c.args.m.now _ _ refl c.in_ok-st.ensures.1

pub returns-in_err-st : goal.returns-in_err-st
returns-in_err-st c =
    let m = c.args.m.now in
    let short = le-ltb _ _ c.if-m-gt-MOST_BYTES.false in
    let r = c.in_err-st.ensures in
    let p = err_from_is_err_and c.from_residual.result c.from_residual.ensures.1 in
    rw (p.1, p.2) (noted_none m _ _ _ refl (ap (concluded_in m) r.0 ∙ found_in_lem m short), c.read_through.ensures.2 ∙ filed_read m short c.args.places.now)

pub returns-in_err-finding : goal.returns-in_err-finding
returns-in_err-finding c =
    let m = c.args.m.now in
    let short = le-ltb _ _ c.if-m-gt-MOST_BYTES.false in
    let p = err_from_is_err_and c.from_residual-in_err-finding.result c.from_residual-in_err-finding.ensures.1 in
    rw (p.1, p.2)
    (noted_behind m short (stated c.in_ok-st.st) c.in_ok-st.ensures.0 _ _ c.in_err-finding.ensures, c.read_through.ensures.2 ∙ filed_read m short c.args.places.now)

pub returns : goal.returns
returns c =
    let m = c.args.m.now in
    let short = le-ltb _ _ c.if-m-gt-MOST_BYTES.false in
    (noted_in m short (stated c.in_ok-st.st) c.in_ok-st.ensures.0 _ c.in_ok-finding.ensures, c.read_through.ensures.2 ∙ filed_read m short c.args.places.now)
