-- `verdict::answer` meets its contract: the line is that of the input.
use Rattle.std.proofs.Common.{rules, subst, ap, ◌∙◌, OnOk}
use Rattle.std.specs.Io.KnownBytes.{Appends}
use Rattle.verdict.specs.Line.{told}
use Rattle.verdict.proofs.Answered.{too_long, of_judged, of_index}
use Rattle.verdict.proofs.answer.Goals as goal

pub returns-then-input-gt65536 : goal.returns-then-input-gt65536
returns-then-input-gt65536 g c =
    let old = g.W.Write.contents c.args.out.now in
    let new = g.W.Write.contents c.writeln.new.self in
    subst (λ w. OnOk c.writeln.result (Appends old new w)) (too_long c.args.input.now c.if-input-gt65536.true) c.writeln.ensures.bytes

pub returns : goal.returns
returns g c =
    let old = g.W.Write.contents c.args.out.now in
    let new = g.W.Write.contents c.print_verdict.new.out in
    let line = ap told (c.judge.ensures.0 ∙ of_index _ _ (search rules)) ∙ of_judged c.args.input.now c.if-input-gt65536.false in
    subst (λ w. OnOk c.print_verdict.result (Appends old new w)) line c.print_verdict.ensures
