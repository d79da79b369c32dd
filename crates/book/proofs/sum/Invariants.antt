-- The sum so far and that of what is left are the sum of all.
use Rattle.std.proofs.Common.{◌≡◌, ◌+◌, ◌≤◌, drop}
use Rattle.money.specs.declared.Range.TheVariants.{Total}
use Rattle.money.specs.Amount.{most}
use Rattle.book.specs.Book.{sum_of}
use Rattle.book.proofs.sum.Given as goal

abbrev pub invariant-loop-e : goal.invariant-loop-e
invariant-loop-e l = (l.sum ≤ most Total) × (l.sum + sum_of (drop l.e-index l.bulks) ≡ sum_of l.bulks)
