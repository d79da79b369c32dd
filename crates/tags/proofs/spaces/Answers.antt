-- `tags::spaces` meets its contract.
use mathlib.Core.Path.{◌∙◌}
use mathlib.Core.Bool.{not}
use Rattle.std.proofs.Common.{rules, tests}
use Rattle.std.proofs.lemmas.Iterator.{YieldsList-from_slice}
use Rattle.std.proofs.lemmas.Iterator.Search.{position_from_yields_List}
use Rattle.tags.specs.Tags.{white}
use Rattle.tags.proofs.Ends.{not_not, lead_of_position}
use Rattle.tags.proofs.spaces.Goals as goal

pub returns : goal.returns
returns c =
    let s = c.args.s.now in
    c.unwrap_or.ensures ∙ lead_of_position white (λ x. not (white x)) (λ x. not_not (white x)) s c.position.result
    (position_from_yields_List (λ x. not (white x)) _ _ c.position.result c.position.ensures.ran (YieldsList-from_slice s cc) (λ x b q k. search (rules, tests)))
