-- `reader::message` meets its contract.
use Rattle.table.proofs.Rows.{first_row}
use Rattle.notes.specs.Steps.{stated, stepped}
use Rattle.engine.proofs.Whole.{message_long, message_far, begins, message_is, places_long, places_far, places_are}
use Rattle.reader.proofs.Room.{profile_room}
use Rattle.reader.proofs.Whole.{profile_read, profile_placed}
use Rattle.reader.proofs.Steps.{refused_at}
use Rattle.reader.proofs.message.Goals.{then-m-gt-MOST_BYTES-via-then-m-gt-MOST_BYTES, then-m-gt-MOST_BYTES-via-else-m-gt-MOST_BYTES+then-m-at}
use Rattle.reader.proofs.message.Goals as goal

pub returns-then-m-gt-MOST_BYTES : goal.returns-then-m-gt-MOST_BYTES
returns-then-m-gt-MOST_BYTES c =
    let a = c.args in
    let e = refused_at _ _ c.at.ensures in
    elim c.then-m-gt-MOST_BYTES.branch [
      | then-m-gt-MOST_BYTES-via-then-m-gt-MOST_BYTES w ↦
          let h = w.if-m-gt-MOST_BYTES.true in
          let y = message_long a.v a.m.now a.at h _ e in
          (y.0, y.1, places_long a.v a.m.now a.at h a.places.now)
      | then-m-gt-MOST_BYTES-via-else-m-gt-MOST_BYTES+then-m-at w ↦
          let h = w.if-m-gt-MOST_BYTES.false in
          let y = message_far a.v a.m.now a.at h w.if-m-at.true _ e in
          (y.0, y.1, places_far a.v a.m.now a.at h w.if-m-at.true a.places.now)
    ]

pub group-requires : goal.group-requires
group-requires c =
    let a = c.args in
    let the-if1 = c.if-m-gt-MOST_BYTES in
    let the-if2 = c.if-m-at in
    let the-new3 = c.new-st in (
      begins a.v a.m.now a.at the-if1.false the-if2.false (stated the-new3.result) the-new3.ensures,
      first_row a.v,
      c.tags_of-names.ensures,
      c.rows_of-rows.ensures,
      profile_room a.v a.at (stated the-new3.result) the-new3.ensures,
    )

pub returns : goal.returns
returns c =
    let a = c.args in
    let the-if1 = c.if-m-gt-MOST_BYTES in
    let the-if2 = c.if-m-at in
    let the-new3 = c.new-st in
    let the-group = c.group in
    let y = message_is a.v a.m.now a.at the-if1.false the-if2.false (stated the-new3.result) the-new3.ensures
    (stepped the-group.result) (profile_read a.v a.m.now the-new3.result.at the-new3.result.notes (stepped the-group.result) the-group.ensures.0) the-group.ensures.1 in
    let z = places_are a.v a.m.now a.at the-if1.false the-if2.false (stated the-new3.result) the-new3.ensures a.places.now _
    (profile_placed a.v a.m.now the-new3.result.at the-new3.result.notes a.places.now _ the-group.ensures.2) in
    (y.0, y.1, z)
