-- "a two by four table of the open cents, by service and sequence type": what one bulk adds to it. SeqTp is taken "from wherever it stands".
use Rattle.std.specs.Prelude.{ℕ, ◌+◌, List, [], ◌∷◌, ◌++◌, replicate}
use Prim.Native.String.{String}
use Rattle.text.specs.Truth.{pick}
use Rattle.text.specs.Quoted.{is}
use Rattle.codes.specs.declared.Element as code
use Rattle.codes.specs.Listed.{codes_of}
use Rattle.profile.specs.declared.Field.TheVariants.{SeqTp}
use Rattle.reading.specs.Trace.{What}
use Rattle.reading.specs.Verdict.{Judged, accepted, refused}
use Rattle.reading.specs.Judged.{judged}
use Rattle.reading.specs.Items.{Item, the_header, the_items}
use Rattle.postings.specs.Record.{value_for, cents_for}
use Rattle.naming.specs.Key.{read_in}
use Rattle.judge.specs.Survey.{service_number}
use Rattle.judge.specs.Index.{or_short}
use Rattle.sums.specs.declared.Lot.{Lot}

-- an item's cents where its SeqTp, from wherever it stands, is a code; else nothing
abbrev pub of_type : String → List What → ℕ
of_type q ws = pick (is q (value_for ws SeqTp)) (cents_for ws) 0

-- the cents of the items of a sequence type, under a header
abbrev pub cents_by : String → List What → List Item → ℕ
cents_by q h [] = 0
cents_by q h (x ∷ l) = of_type q (h ++ x.holds) + cents_by q h l

-- for each of some sequence types
abbrev pub each_type : List String → List What → List Item → List ℕ
each_type [] h l = []
each_type (q ∷ qs) h l = cents_by q h l ∷ each_type qs h l

-- of a message: for FRST, RCUR, FNAL and OOFF, in this order
unfoldable pub sums_of : List ℕ → List ℕ
sums_of m = each_type (codes_of code.TheVariants.SeqTp) (the_header m) (the_items m)

-- all of some cents together
abbrev pub total : List ℕ → ℕ
total [] = 0
total (x ∷ l) = x + total l

-- what a bulk adds to the table: its service, by its place in its list from 1 on, and its cents by sequence type; nothing where it is refused
abbrev pub no_lot : Lot
no_lot = record { service = 0; sums = replicate 4 0 }

abbrev pub lot_if : Judged → List ℕ → Lot
lot_if (accepted count cents) m = record { service = service_number (read_in m); sums = sums_of m }
lot_if (refused n p) m = no_lot

unfoldable pub lot_of : List ℕ → Lot
lot_of m = lot_if (judged m) m

-- with the lent index: 25 before all others of the judge
abbrev pub lot_with : List ℕ → List ℕ → Lot
lot_with index m = or_short index no_lot (lot_of m)
