-- `recording::value` meets its contract: the part up to the last byte that is no space.
use Rattle.words.specs.Collapsed.{space}
use Rattle.words.proofs.Ends.{part_long, part_reached}
use Rattle.recording.specs.Record.{unpadded}
use Rattle.recording.proofs.value.Goals as goal

pub slice_bounds-result-end : goal.slice_bounds-result-end
unfolding unpadded
slice_bounds-result-end c = part_long space c.args.f.now c.reach-e.result c.reach-e.ensures

pub returns : goal.returns
unfolding unpadded
returns c = part_reached space c.args.f.now c.reach-e.result c.reach-e.ensures
