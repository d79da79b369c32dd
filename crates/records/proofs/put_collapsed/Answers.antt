-- `records::put_collapsed` meets its contract: the value collapsed, in a field of spaces.
use mathlib.Core.Path.{◌∙◌, ap}
use mathlib.Core.List.{List}
use Prim.Native.Nat.{ℕ}
use lib.ListN.{replicate}
use Rattle.words.specs.Collapsed.{collapsed}
use Rattle.words.specs.Walk.{overwritten}
use Rattle.records.specs.Engine.{laid}
use Rattle.records.proofs.Fields.{field_written}
use Rattle.records.proofs.put_collapsed.Goals as goal

pub returns : goal.returns
returns c =
    let a = c.args in
    c.lay.ensures
    ∙ ap (λ (l : List ℕ). laid 35 l a.rec.now)
    (c.collapse.ensures ∙ ap (λ (v : List ℕ). overwritten (collapsed v) (replicate 35 32)) c.held.ensures ∙ field_written 35 _)
