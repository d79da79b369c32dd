-- `plain::spell` meets its contract.
use mathlib.Core.Path.{sym, ap, ◌∙◌}
use lib.ListN.{length}
use Rattle.words.specs.Collapsed.{collapsed}
use Rattle.words.proofs.Walk.{overwritten_exact}
use Rattle.plain.specs.declared.Spelling.{Spelling}
use Rattle.plain.specs.Engine.{spelled}
use Rattle.plain.proofs.spell.Goals as goal

pub returns-in-Collapsed : goal.returns-in-Collapsed
returns-in-Collapsed c =
    let a = c.args in
    c.collapse.ensures ∙ overwritten_exact (collapsed a.v.now) a.to.now
    (c.requires ∙ ap (λ (k : Spelling). length (spelled k a.v.now)) c.in-Collapsed.is) ∙ sym
    (ap (λ (k : Spelling). spelled k a.v.now) c.in-Collapsed.is)
