-- `plain::fill` meets its contract.
use native.Mathlib.Omega.{arith}
use mathlib.Core.Path.{refl, sym, ap, ◌∙◌}
use borrow.Author.Tests.{eqb-true, eqb-false}
use lib.ListN.{length}
use Rattle.plain.proofs.Pieces.{next_less, laid_begins, part_fits, part_room, laid_on, laid_ends}
use Rattle.plain.proofs.fill.Goals as goal

pub loop-rest-init : goal.loop-rest-init
loop-rest-init c = laid_begins c.args.s.now c.args.area.now c.requires

pub piece_length-requires : goal.piece_length-requires
piece_length-requires c =
    let l = c.loop-rest in
    omega
    (arith, ap length c.piece_of-p.ensures.text, part_fits c.args.s.now c.args.area.now c.requires l.rest.now l.n l.area l.invariant (eqb-false _ _ (sym c.loop-rest-test.ensures)) _ refl)

pub overflow_add-to : goal.overflow_add-to
overflow_add-to c =
    let l = c.loop-rest in
    omega
    (arith, part_fits c.args.s.now c.args.area.now c.requires l.rest.now l.n l.area l.invariant (eqb-false _ _ (sym c.loop-rest-test.ensures)) c.piece_length.result (c.piece_length.ensures ∙ ap length c.piece_of-p.ensures.text))

pub slice_bounds-lay-end : goal.slice_bounds-lay-end
slice_bounds-lay-end c =
    let l = c.loop-rest in
    omega
    (arith, part_fits c.args.s.now c.args.area.now c.requires l.rest.now l.n l.area l.invariant (eqb-false _ _ (sym c.loop-rest-test.ensures)) c.piece_length.result (c.piece_length.ensures ∙ ap length c.piece_of-p.ensures.text))

pub lay-requires : goal.lay-requires
lay-requires c =
    let l = c.loop-rest in
    part_room c.args.s.now c.args.area.now c.requires l.rest.now l.n l.area l.invariant (eqb-false _ _ (sym c.loop-rest-test.ensures)) c.piece_length.result (c.piece_length.ensures ∙ ap length c.piece_of-p.ensures.text) ∙ sym (ap length c.piece_of-p.ensures.text)

pub loop-rest-smaller : goal.loop-rest-smaller
loop-rest-smaller c = omega (arith, ap length c.piece_of-p.ensures.next, next_less c.loop-rest.rest.now (eqb-false _ _ (sym c.loop-rest-test.ensures)))

pub loop-rest-preserved : goal.loop-rest-preserved
loop-rest-preserved c =
    let l = c.loop-rest in
    rw c.piece_of-p.ensures.next (laid_on c.args.s.now c.args.area.now c.requires l.rest.now l.n l.area l.invariant (eqb-false _ _ (sym c.loop-rest-test.ensures)) c.piece_length.result (c.piece_length.ensures ∙ ap length c.piece_of-p.ensures.text) c.lay.new.part (c.lay.ensures ∙ c.piece_of-p.ensures.text))

pub returns : goal.returns
returns c =
    let l = c.loop-rest in
    laid_ends c.args.s.now c.args.area.now c.requires l.rest.now l.n l.area l.invariant (eqb-true _ _ (sym c.loop-rest-test.ensures))
