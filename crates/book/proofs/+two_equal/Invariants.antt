-- `book::two_equal` calls itself on what is left of the list.
use lib.ListN.{length}
use Rattle.book.proofs.+two_equal.Given as goal

abbrev pub decreases-two_equal : goal.decreases-two_equal
decreases-two_equal l = length l.bulks.now
