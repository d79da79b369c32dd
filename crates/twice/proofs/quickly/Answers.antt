-- `twice::quickly` meets its contract.
use Rattle.twice.specs.Twice.{least_index}
use Rattle.twice.proofs.Cleared.{cleared_free, cleared_long, cleared_whole, cleared_not}
use Rattle.twice.proofs.quickly.Goals as goal

pub returns-then-index-lt-LEAST_INDEX : goal.returns-then-index-lt-LEAST_INDEX
unfolding least_index
returns-then-index-lt-LEAST_INDEX c = (c.plainly.ensures, cleared_not _ c.if-index-lt-LEAST_INDEX.true)

pub sought-found-requires : goal.sought-found-requires
sought-found-requires c = cleared_free c.args.index.now c.fill.new.self c.if-index-lt-LEAST_INDEX.false (c.fill.ensures.after (λ y h. h))

pub returns : goal.returns
unfolding least_index
returns c =
    let s = c.sought-found in
    let n = c.if-index-lt-LEAST_INDEX.false in
    (s.ensures, cleared_whole c.args.index.now _ _ (cleared_long _ c.fill.new.self _ n c.fill.ensures.len s.auto.index) n (c.fill-2.ensures.after (λ y h. h)))
