-- `words::is_text` meets its contract: the bytes of the class pass, and each of the others is asked.
use Rattle.std.proofs.Common.{rules, tests, ap, ◌∙◌, ◌≤◌, ◌-◌, length, take, drop, arith}
use Rattle.std.specs.List.{list_all}
use Rattle.std.proofs.lemmas.Iterator.{YieldsList-from_slice}
use Rattle.std.proofs.lemmas.Iterator.Search.{all_from_yields_List}
use Rattle.text.specs.Classes.{text_set, in_class}
use Rattle.text.proofs.Scan.{lead_le, rest_of}
use Rattle.words.specs.Collapsed.{as_space}
use Rattle.words.proofs.Forms.{space_text}
use Rattle.words.proofs.Walk.{counted_every, text_lead}
use Rattle.words.proofs.is_text.Goals as goal

pub slice_bounds-rest-count : goal.slice_bounds-rest-count
unfolding in_class
slice_bounds-rest-count c = omega (arith, lead_le text_set c.args.s.now)

pub slice_bounds-rest-start : goal.slice_bounds-rest-start
unfolding in_class
slice_bounds-rest-start c =
    let s = c.args.s.now in
    let h : c.run_in.result ≤ length s = omega (arith, lead_le text_set s) in
    search rules

pub returns : goal.returns
unfolding in_class
returns c =
    let s = c.args.s.now in
    let n = c.run_in.result in
    all_from_yields_List (λ x. text_set (as_space x)) _ _ c.all.result c.all.ensures.ran (YieldsList-from_slice (take (length s - n) (drop n s)) cc) (λ x b q k. search (rules, tests))
    ∙ ap (list_all (λ x. text_set (as_space x))) (rest_of n s) ∙ counted_every text_set (drop n s) ∙ text_lead text_set space_text s n c.run_in.ensures
