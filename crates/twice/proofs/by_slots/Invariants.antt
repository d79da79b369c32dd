-- `twice::by_slots` meets its contract. The loop's invariant: what the search gives from item i on is what it gives at all, and each entry is that of its item.
use Rattle.std.proofs.Common.{◌≡◌, length, drop}
use Rattle.twice.specs.Engine.{mix, slots_from, numbers_in, AllTold}
use Rattle.twice.proofs.by_slots.Given as goal

abbrev pub invariant-loop-i : goal.invariant-loop-i
invariant-loop-i l = (length l.index ≡ length l.initial.index) × AllTold l.m l.places l.index
    × (slots_from mix l.m l.places l.i (numbers_in l.index) (drop l.i l.places) ≡ slots_from mix l.m l.places 0 (numbers_in l.initial.index) l.places)
