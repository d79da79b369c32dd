-- `book::place_of` meets its contract: the first entry that passes the test.
use Rattle.std.proofs.Common.{rules, tests, ◌∙◌}
use Rattle.std.proofs.lemmas.Iterator.{YieldsList-from_slice}
use Rattle.std.proofs.lemmas.Iterator.Search.{position_from_yields_List}
use Rattle.book.specs.Book.{has_key}
use Rattle.text.proofs.Chains.{alike_pointwise}
use Rattle.book.proofs.Lists.{place_is}
use Rattle.book.proofs.place_of.Goals as goal

pub returns : goal.returns
returns c =
    let l = c.args.bulks.now in
    let k = c.args.key.now in
    position_from_yields_List (has_key k) _ _ c.position.result c.position.ensures.ran (YieldsList-from_slice l cc) (λ x b q h. search (rules, tests, alike_pointwise)) ∙ place_is k l
