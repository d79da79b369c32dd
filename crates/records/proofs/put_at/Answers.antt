-- `records::put_at` meets its contract: as much of the value as the field holds.
use mathlib.Core.Path.{◌∙◌, ap, sym}
use mathlib.Core.List.{List}
use Prim.Native.Nat.{ℕ}
use native.Mathlib.Omega.{arith}
use lib.ListN.{take, length-take}
use lib.Seq.{length-take-le}
use Rattle.records.specs.Engine.{laid}
use Rattle.records.proofs.Fields.{field_cut}
use Rattle.records.proofs.put_at.Goals as goal

pub slice_bounds-lay-end : goal.slice_bounds-lay-end
slice_bounds-lay-end c = sym (length-take-le _ _ (omega (arith, c.min.ensures)))

pub lay-requires : goal.lay-requires
lay-requires c = simp length-take (omega (arith, c.requires, c.min.ensures))

pub returns : goal.returns
returns c =
    let a = c.args in
    c.lay.ensures
    ∙ ap (λ (l : List ℕ). laid a.at l a.rec.now) (field_cut c.held-v.result.now a.width _ c.min.ensures ∙ ap (take a.width) c.held-v.ensures)
