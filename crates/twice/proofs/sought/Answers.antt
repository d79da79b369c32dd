-- `twice::sought` meets its contract.
use Rattle.std.proofs.Common.{ap, ◌∙◌, arith}
use Rattle.twice.specs.Twice.{if_any}
use Rattle.twice.specs.Engine.{most, mix, numbers_in}
use Rattle.twice.proofs.Entries.{numbers_long, numbers_free}
use Rattle.twice.proofs.Slots.{by_any_mix}
use Rattle.twice.proofs.sought.Goals as goal

pub returns-then-places-gt-MOST : goal.returns-then-places-gt-MOST
returns-then-places-gt-MOST c = c.plainly.ensures

pub by_slots-requires : goal.by_slots-requires
unfolding most
by_slots-requires c = (c.requires.0, omega arith, c.requires.1)

pub returns : goal.returns
unfolding most
returns c =
    let a = c.args in
    let p = c.requires in
    c.by_slots.ensures ∙ ap if_any (by_any_mix mix a.m.now a.places.now (omega arith) (numbers_in a.index.now)
    (omega (arith, numbers_long a.index.now, p.0)) (numbers_free a.index.now p.1))
