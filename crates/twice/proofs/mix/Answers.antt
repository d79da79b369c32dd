-- `twice::mix` meets its contract. The loop's invariant: the rest mixed into the sum is all mixed in.
use Rattle.std.proofs.Common.{ℕ, ◌≡◌, ◌*◌, ◌/◌, ◌<◌, List, [], length, get_or, ap, ◌∙◌, arith}
use Rattle.twice.specs.Engine.{as_one, strewn, mix}
use Rattle.twice.proofs.Walks.{chunk_at, four_next, mix_end}
use Rattle.twice.proofs.mix.Goals as goal

pub loop-four-preserved : goal.loop-four-preserved
unfolding as_one
loop-four-preserved c =
    let v = c.args.v.now in
    let l = c.loop-four in
    let f = c.as_chunks.ensures in
    let w : l.four-index < length v / 4 = omega (arith, f.front_len) in
    rw c.mix_on-h.ensures
    (four_next v l.h (4 * l.four-index) (omega arith) _ (ap (λ (s : List (List ℕ)). get_or s l.four-index []) f.front ∙ chunk_at _ v l.four-index w) _ c.from_le_bytes.ensures _ (omega arith)
    ∙ l.invariant)

pub returns : goal.returns
unfolding mix
returns c =
    let v = c.args.v.now in
    let l = c.loop-four in
    let f = c.as_chunks.ensures in
    let k : l.four-index ≡ length v / 4 = omega (arith, f.front_len) in
    c.strew.ensures ∙ ap strewn (mix_end v _ l.h l.four-index _ f.back k c.mix_bytes.ensures ∙ l.invariant)
