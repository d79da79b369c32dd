-- `bulk::tell_played` meets its contract.
use Rattle.std.proofs.Common.{refl, ap, ◌∷◌, arith}
use Rattle.bulk.specs.Told.{told_played}
use Rattle.bulk.proofs.Played.{eight}
use Rattle.bulk.proofs.tell_played.Goals as goal

pub returns-in-Ok : goal.returns-in-Ok
unfolding told_played
returns-in-Ok c = λ l n. rw c.in-Ok.is (ap (λ w. 0 ∷ c.in-Ok.p.records ∷ w) (eight c.in-Ok.p.table (omega arith)))

pub returns-in-Err : goal.returns-in-Err
unfolding told_played
returns-in-Err c = λ l n. rw (c.in-Err.is, c.from.ensures, c.number.ensures) refl
