-- `words::fits` meets its contract: a value is not longer collapsed than it is, so few bytes need no count.
use Rattle.std.proofs.Common.{arith, ◌∙◌, ap, not}
use borrow.Author.Tests.{le-leb}
use Rattle.words.proofs.Forms.{fits_none, fits_few, fits_counted}
use Rattle.words.proofs.fits.Goals as goal

pub returns-then-p-most : goal.returns-then-p-most
returns-then-p-most c = le-leb _ _ c.if-p-most.true ∙ fits_few _ _ c.requires (grind arith) c.if-p-most.true

pub returns-else-p-most : goal.returns-else-p-most
returns-else-p-most c = fits_counted _ _ c.requires (grind arith) c.collapsed_length.result c.collapsed_length.ensures

pub returns-else-not-is_empty : goal.returns-else-not-is_empty
returns-else-not-is_empty c = ap not c.if-not-is_empty.false ∙ fits_none _ _ (grind arith)
