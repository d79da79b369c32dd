-- `play::message` meets its contract.
use Rattle.std.proofs.Common.{◌≡◌, refl, sym, length, ◌∙◌}
use borrow.Author.Tests.{ltb-true, ltb-false}
use Rattle.play.specs.Play.{begins}
use Rattle.play.proofs.Messages.{within, none_left, part_of, begins_at}
use Rattle.play.proofs.message.Goals as goal
use Rattle.play.proofs.message.Goals.{then-j-eq0, else-j-eq0}

pub returns-in_err-to : goal.returns-in_err-to
returns-in_err-to c =
    rw c.from_residual.ensures (none_left c.args.ends.now c.args.j c.args.buffer.now (ltb-false c.args.j (length c.args.ends.now) (sym c.in_err-to.ensures.lookup.0)))

pub returns : goal.returns
returns c =
    let a = c.args in
    let from : c.if-j-eq0.from ≡ begins a.ends.now a.j =
    elim c.if-j-eq0.branch [
      | then-j-eq0 w ↦ w.from-is ∙ rw w.if-j-eq0.true refl
      | else-j-eq0 w ↦ w.from-is ∙ begins_at a.ends.now a.j w.if-j-eq0.false
    ] in
    let k = c.in_ok-to.ensures.lookup in
    let h = ltb-true a.j (length a.ends.now) (sym k.0) in
    part_of a.ends.now a.j a.buffer.now _ _ c.get-2.result from (k.1 ∙ within a.ends.now a.j _ h) h c.get-2.ensures.lookup
