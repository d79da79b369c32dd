-- `group` and `element` call each other. Unread bytes fall from an element to the group within it, and the remaining depth of the tree falls
-- from a group to its element: the measure is their sum. The group's loop goes on to a later place, or to a later row at the same place.
use Rattle.std.proofs.Common.{length, ◌+◌, ◌-◌, ◌*◌}
use Rattle.table.specs.Table.{due}
use Rattle.notes.specs.Steps.{stated}
use Rattle.reader.proofs.Turns.{deep, deep_in}
use Rattle.reader.proofs.Loops.{Loop}
use Rattle.reader.proofs.Led.+element_group.Given as goal

abbrev pub decreases-element : goal.decreases-element
decreases-element l = (length l.self.m.now - l.st.at) + deep_in (due l.self.v l.k)

abbrev pub decreases-group : goal.decreases-group
decreases-group l = (length l.self.m.now - l.start.at) + deep (due l.self.v l.first)

abbrev pub invariant-group-loop-self : goal.invariant-group-loop-self
invariant-group-loop-self l = Loop l.self.v l.self.m.now l.first (stated l.fn.start) l.fn.places l.k l.seen (stated l.st) l.places

abbrev pub decreases-group-loop-self : goal.decreases-group-loop-self
decreases-group-loop-self l = 256 * (length l.self.m.now - l.st.at) + (255 - l.k)
