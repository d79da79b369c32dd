-- `words::two_slashes` meets its contract: each byte is told beside the one behind it.
use Rattle.std.proofs.Common.{rules, tests, ap, length, take, drop, ◌-◌, ◌∙◌}
use Rattle.std.specs.List.{list_any, zip}
use Rattle.text.proofs.Scan.{rest_of}
use Rattle.std.proofs.lemmas.Iterator.{YieldsList-from_slice, YieldsList-from_zip}
use Rattle.std.proofs.lemmas.Iterator.Search.{any_from_yields_List}
use Rattle.words.proofs.Slashes.{side_by_side, two_pairs}
use Rattle.words.proofs.two_slashes.Goals as goal

pub returns-then-not-is_empty : goal.returns-then-not-is_empty
returns-then-not-is_empty c =
    let s = c.args.s.now in
    let t = take (length s - 1) (drop 1 s) in
    any_from_yields_List side_by_side c.any.new.self _ c.any.result c.any.ensures.ran (YieldsList-from_zip (YieldsList-from_slice s cc) (YieldsList-from_slice t cc)) (λ x b q k. search (rules, tests))
    ∙ ap (λ l. list_any side_by_side (zip s l)) (rest_of 1 s) ∙ two_pairs s
