-- `tags::upto` meets its contract: a `<` in a block, none in it, and what is left behind the last block.
use native.Mathlib.Omega.{arith}
use mathlib.Core.Path.{refl}
use Rattle.std.proofs.Common.{rules, tests}
use Rattle.std.proofs.lemmas.Iterator.{YieldsList-from_slice}
use Rattle.std.proofs.lemmas.Iterator.Search.{position_from_yields_List}
use lib.Dec.{eqb}
use Rattle.tags.specs.Values.{in_value}
use Rattle.tags.proofs.Ends.{block_of, behind_block, lead_of_position}
use Rattle.tags.proofs.upto.Goals as goal

pub returns-then-k-lt-BLOCK : goal.returns-then-k-lt-BLOCK
returns-then-k-lt-BLOCK c =
    let l = c.loop-block in
    let p = c.in-Some.ensures.cases in
    omega (arith, l.invariant.1, block_of l.rest.now _ _ _ p.0 p.1 p.2 c.of_block-k.ensures (omega arith))

pub loop-block-preserved : goal.loop-block-preserved
loop-block-preserved c =
    let l = c.loop-block in
    let p = c.in-Some.ensures.cases in
    (omega (arith, l.invariant.0, p.2), omega (arith, l.invariant.1, behind_block l.rest.now _ _ _ p.0 p.1 p.2 c.of_block-k.ensures (omega arith)))

pub returns : goal.returns
returns c =
    let l = c.loop-block in
    let s = l.rest.now in
    omega (
      arith,
      l.invariant.1,
      c.unwrap_or.ensures,
      lead_of_position in_value (λ x. eqb x 60) (λ x. refl) s c.position.result
          (position_from_yields_List (λ x. eqb x 60) _ _ c.position.result c.position.ensures.ran (YieldsList-from_slice s cc) (λ x b q k. search (rules, tests))),
    )
