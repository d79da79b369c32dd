-- `play::finish` meets its contract.
use Rattle.play.proofs.Loop.{all_taken}
use Rattle.play.proofs.finish.Goals as goal

pub returns : goal.returns
returns c =
    let a = c.args in
    λ l. all_taken a.run l a.ends.now a.records c.if-run-ends.false c.lay_flat.result (c.lay_flat.ensures _ c.table_of.ensures)
