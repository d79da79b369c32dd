-- `straight::noted::note_item` meets its contract.
use Rattle.straight.proofs.Starts.{noted_behind}
use Rattle.straight.proofs.noted.note_item.Goals as goal

pub returns : goal.returns
returns c =
    let a = c.args in
    let s = c.said_by-notes in
    let v = c.service_from-notes in
    let f = c.start_front in
    let k = c.start_back in
    noted_behind a.r a.st.notes s.result v.result f.new.starts k.new.starts s.ensures v.ensures f.ensures k.ensures
