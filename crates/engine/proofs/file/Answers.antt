-- `engine::file` meets its contract.
use Rattle.std.proofs.Common.{sym, rules}
use borrow.Author.Tests.{eqb-true}
use denote.Enum.Bare.{differs_true, differs_false}
use Rattle.profile.specs.contracts.Field.{the_type}
use Rattle.engine.proofs.Placed.{file_other, file_none, file_full, file_last, file_more}
use Rattle.engine.proofs.file.Goals as goal
use Rattle.engine.proofs.file.Goals.{then-ne-via-then-ne, then-ne-via-else-ne+then-is_empty, else-many-via-then-many+else-next-places, else-many-via-else-many}

pub returns-then-ne : goal.returns-then-ne
returns-then-ne c =
    let a = c.args in
    elim c.then-ne.branch [
      | then-ne-via-then-ne w ↦ file_other a.f a.at a.places.now (differs_true the_type _ _ (sym w.if-ne.ensures))
      | then-ne-via-else-ne+then-is_empty w ↦ file_none a.f a.at a.places.now (differs_false the_type (search rules) _ _ (sym w.if-ne.ensures)) (eqb-true _ 0 (sym w.if-is_empty.ensures))
    ]

pub returns-then-next-places : goal.returns-then-next-places
returns-then-next-places c =
    let a = c.args in
    file_more a.f a.at a.places.now (differs_false the_type (search rules) _ _ (sym c.if-ne.ensures)) c.if-many.true c.if-next-places.true

pub returns-else-many : goal.returns-else-many
returns-else-many c =
    let a = c.args in
    elim c.else-many.branch [
      | else-many-via-then-many+else-next-places w ↦ file_last a.f a.at a.places.now (differs_false the_type (search rules) _ _ (sym c.if-ne.ensures)) w.if-many.true w.if-next-places.false
      | else-many-via-else-many w ↦ file_full a.f a.at a.places.now (differs_false the_type (search rules) _ _ (sym c.if-ne.ensures)) w.if-many.false
    ]
