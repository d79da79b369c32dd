-- `play::table_of` meets its contract: the table is that of the lots so far.
use Rattle.std.proofs.Common.{◌≡◌, take}
use Rattle.play.specs.Table.{table_of}
use Rattle.play.proofs.table_of.Given as goal

abbrev pub invariant-loop-lot : goal.invariant-loop-lot
invariant-loop-lot l = l.table ≡ table_of (take l.lot-index l.lots)
