-- `plain::is_quoted` meets its contract.
use mathlib.Core.Path.{◌∙◌}
use mathlib.Core.List.{[], ◌∷◌}
use Prim.Native.Nat.{◌-◌}
use lib.ListN.{length, drop}
use Rattle.text.proofs.Chains.{alike_pointwise}
use Rattle.plain.specs.Engine.{quoted}
use Rattle.plain.proofs.is_quoted.Goals as goal

pub returns : goal.returns
unfolding quoted
returns c =
    let t = c.args.tag.now in
    c.ends_with.ensures.value ∙ alike_pointwise (34 ∷ 62 ∷ []) (drop (length t - 2) t)
