-- `straight::item` meets its contract.
use Rattle.engine.proofs.Whole.{item_long, item_far}
use Rattle.straight.proofs.Elements.{refused_at}
use Rattle.straight.proofs.item.Goals as goal
use Rattle.straight.proofs.item.Goals.{then-m-gt-MOST_BYTES-via-then-m-gt-MOST_BYTES, then-m-gt-MOST_BYTES-via-else-m-gt-MOST_BYTES+then-m-at}

pub returns-then-m-gt-MOST_BYTES : goal.returns-then-m-gt-MOST_BYTES
returns-then-m-gt-MOST_BYTES c =
    let a = c.args in
    elim c.then-m-gt-MOST_BYTES.branch [
      | then-m-gt-MOST_BYTES-via-then-m-gt-MOST_BYTES w ↦ item_long a.v a.m.now a.at w.if-m-gt-MOST_BYTES.true _ (refused_at _ _ c.at.ensures)
      | then-m-gt-MOST_BYTES-via-else-m-gt-MOST_BYTES+then-m-at w ↦ item_far a.v a.m.now a.at w.if-m-gt-MOST_BYTES.false w.if-m-at.true _ (refused_at _ _ c.at.ensures)
    ]

pub alone-requires : goal.alone-requires
alone-requires c = (c.if-m-gt-MOST_BYTES.false, c.if-m-at.false, c.texts-t.ensures, c.new-before.ensures _ _)

pub returns : goal.returns
returns c = (c.alone.ensures.0, c.alone.ensures.1)
