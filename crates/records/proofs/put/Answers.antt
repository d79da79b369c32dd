-- `records::put` meets its contract: the value at the field's place.
use mathlib.Core.Path.{◌∙◌, ap}
use Prim.Native.Nat.{ℕ}
use lib.ListN.{take}
use Rattle.items.specs.Places.{held_at}
use Rattle.records.specs.Engine.{laid}
use Rattle.records.proofs.put.Goals as goal

pub returns : goal.returns
returns c =
    let a = c.args in
    c.put_at.ensures ∙ ap (λ (p : ℕ). laid a.at (take a.width (held_at a.m.now p)) a.rec.now) c.row_start.ensures
