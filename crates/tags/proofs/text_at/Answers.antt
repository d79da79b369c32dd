-- `tags::text_at` meets its contract.
use mathlib.Core.Path.{sym}
use Rattle.tags.proofs.Looks.{look_asked}
use Rattle.tags.proofs.text_at.Goals as goal

pub returns-then-starts_with : goal.returns-then-starts_with
returns-then-starts_with c = rw (sym (look_asked c.args.text.now c.args.s.now), sym c.starts_with.ensures.value, c.if-starts_with.true)

pub returns-then-starts_with-2 : goal.returns-then-starts_with-2
returns-then-starts_with-2 c = rw (sym (look_asked c.args.text.now c.args.s.now), sym c.starts_with.ensures.value, c.if-starts_with.false, sym c.starts_with-else-starts_with.ensures.value, c.if-starts_with-2.true)

pub returns-else-starts_with-2 : goal.returns-else-starts_with-2
returns-else-starts_with-2 c = rw (sym (look_asked c.args.text.now c.args.s.now), sym c.starts_with.ensures.value, c.if-starts_with.false, sym c.starts_with-else-starts_with.ensures.value, c.if-starts_with-2.false)
