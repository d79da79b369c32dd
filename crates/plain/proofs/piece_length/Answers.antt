-- `plain::piece_length` meets its contract.
use native.Mathlib.Omega.{arith}
use lib.ListN.{length-append}
use Rattle.plain.specs.Engine.{spelled}
use Rattle.plain.proofs.piece_length.Goals as goal

pub overflow_add-result : goal.overflow_add-result
overflow_add-result c =
    let p = c.args.p in
    omega (arith, c.requires, c.spelled_length.ensures, length-append p.tag.now (spelled p.spelling p.value.now))
