-- `play::table_of` meets its contract.
use Rattle.std.proofs.Common.{refl}
use Rattle.play.specs.Table.{table_of}
use Rattle.play.proofs.Tables.{lot_fits, lot_more}
use Rattle.play.proofs.table_of.Goals as goal

pub loop-lot-init : goal.loop-lot-init
unfolding table_of
loop-lot-init c = refl

pub add_lot-more-requires : goal.add_lot-more-requires
add_lot-more-requires c =
    let l = c.loop-lot in lot_fits c.args.lots.now l.lot-index l.table l.invariant c.loop-lot-test.true c.requires.few c.requires.light

pub loop-lot-preserved : goal.loop-lot-preserved
loop-lot-preserved c =
    let l = c.loop-lot in lot_more c.args.lots.now l.lot-index l.table l.invariant c.loop-lot-test.true c.add_lot-more.result c.add_lot-more.ensures
