-- `book::withdraw` meets its contract.
use Rattle.std.proofs.Common.{arith, sym, ◌∙◌}
use Rattle.book.proofs.Answers.{found_below, less_fits, gone}
use Rattle.book.proofs.withdraw.Goals as goal

pub offset_bounds-entries-at : goal.offset_bounds-entries-at
offset_bounds-entries-at c = omega (arith, found_below c.args.entries.now c.args.numbers.now.opened 0 (omega arith) c.args.key.now c.in-Some.at (sym c.place_of.ensures ∙ c.in-Some.is))

pub bounds-entries-at : goal.bounds-entries-at
bounds-entries-at c = omega (arith, found_below c.args.entries.now c.args.numbers.now.opened 0 (omega arith) c.args.key.now c.in-Some.at (sym c.place_of.ensures ∙ c.in-Some.is))

pub overflow_add-at : goal.overflow_add-at
overflow_add-at c = omega (arith, found_below c.args.entries.now c.args.numbers.now.opened 0 (omega arith) c.args.key.now c.in-Some.at (sym c.place_of.ensures ∙ c.in-Some.is))

pub copy_within-requires-clause-start_le_end : goal.copy_within-requires-clause-start_le_end
copy_within-requires-clause-start_le_end c = omega (arith, found_below c.args.entries.now c.args.numbers.now.opened 0 (omega arith) c.args.key.now c.in-Some.at (sym c.place_of.ensures ∙ c.in-Some.is))

pub copy_within-requires-clause-dest_in_bounds : goal.copy_within-requires-clause-dest_in_bounds
copy_within-requires-clause-dest_in_bounds c = omega (arith, found_below c.args.entries.now c.args.numbers.now.opened 0 (omega arith) c.args.key.now c.in-Some.at (sym c.place_of.ensures ∙ c.in-Some.is))

pub overflow_sub-numbers-2 : goal.overflow_sub-numbers-2
overflow_sub-numbers-2 c = less_fits c.args.entries.now c.args.numbers.now.opened c.args.numbers.now.total (omega arith) c.args.key.now c.in-Some.at (sym c.place_of.ensures ∙ c.in-Some.is) _ c.requires.sum

pub returns : goal.returns
returns c = gone c.args.entries.now c.args.numbers.now.opened c.args.numbers.now.total (omega arith) c.args.key.now c.in-Some.at (sym c.place_of.ensures ∙ c.in-Some.is) _ _ c.copy_within.ensures.after
