-- `straight::message` meets its contract.
use Rattle.notes.specs.Steps.{stated, stepped}
use Rattle.engine.proofs.Whole.{message_long, message_far, places_long, places_far}
use Rattle.straight.proofs.Elements.{refused_at}
use Rattle.straight.proofs.Frame.{starts_good, starts_room, message_makes}
use Rattle.straight.proofs.message.Goals as goal
use Rattle.straight.proofs.message.Goals.{then-m-gt-MOST_BYTES-via-then-m-gt-MOST_BYTES, then-m-gt-MOST_BYTES-via-else-m-gt-MOST_BYTES+then-m-at}

pub returns-then-m-gt-MOST_BYTES : goal.returns-then-m-gt-MOST_BYTES
returns-then-m-gt-MOST_BYTES c =
    let a = c.args in
    elim c.then-m-gt-MOST_BYTES.branch [
      | then-m-gt-MOST_BYTES-via-then-m-gt-MOST_BYTES w ↦
          let y = message_long a.v a.m.now a.at w.if-m-gt-MOST_BYTES.true _ (refused_at _ _ c.at.ensures) in
          (y.0, y.1, places_long a.v a.m.now a.at w.if-m-gt-MOST_BYTES.true a.places.now)
      | then-m-gt-MOST_BYTES-via-else-m-gt-MOST_BYTES+then-m-at w ↦
          let y = message_far a.v a.m.now a.at w.if-m-gt-MOST_BYTES.false w.if-m-at.true _ (refused_at _ _ c.at.ensures) in
          (y.0, y.1, places_far a.v a.m.now a.at w.if-m-gt-MOST_BYTES.false w.if-m-at.true a.places.now)
    ]

pub bulk-requires : goal.bulk-requires
bulk-requires c =
    let a = c.args in
    let n = c.new in (
      starts_good a.v a.m.now a.at c.if-m-gt-MOST_BYTES.false c.if-m-at.false (stated n.result) n.ensures,
      starts_room a.v a.m.now a.at c.if-m-gt-MOST_BYTES.false c.if-m-at.false (stated n.result) n.ensures,
      c.texts-t.ensures,
    )

pub returns : goal.returns
returns c =
    let a = c.args in
    let n = c.new in
    message_makes a.v a.m.now a.at c.if-m-gt-MOST_BYTES.false c.if-m-at.false (stated n.result) n.ensures a.places.now (stepped c.bulk.result) _ c.bulk.ensures
