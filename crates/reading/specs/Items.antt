-- The items of a message, read off the list of what it holds.
use Rattle.std.specs.Prelude.{ℕ, zero, suc, List, [], ◌∷◌}
use Rattle.reading.specs.Trace.{What, Entry, message}
use Rattle.reading.specs.Noted.{Reading, on, stop, Ended, noted}
use Rattle.reading.specs.Rules.{at_item}
use Rattle.reading.specs.Verdict.{Judged, accepted, refused, Located, lies, not_there}
use Rattle.reading.specs.Judged.{whats, listed, judged}

-- "An item lies from the `<` of its start tag to the `>` of its end tag", and holds values
pub record Item : Type 0 where
  pub from : ℕ
  pub to : ℕ
  pub holds : List What

-- what stands up to the next end of an item
abbrev pub or_end : What → List What → List What
or_end w l = at_item w (w ∷ l) [] (w ∷ l)

abbrev pub up_to_end : List Entry → List What
up_to_end [] = []
up_to_end (e ∷ l) = or_end e.what (up_to_end l)

-- where the next item ends
abbrev pub end_or : What → ℕ → ℕ → ℕ
end_or w p q = at_item w q p q

abbrev pub next_end : List Entry → ℕ
next_end [] = 0
next_end (e ∷ l) = end_or e.what e.place (next_end l)

-- an item for each beginning
abbrev pub item_or : What → Item → List Item → List Item
item_or w x l = at_item w (x ∷ l) l l

abbrev pub items_of : List Entry → List Item
items_of [] = []
items_of (e ∷ l) = item_or e.what (record { from = e.place; to = next_end l; holds = up_to_end l }) (items_of l)

-- what stands before the first item: what the header says
abbrev pub or_item : What → List What → List What
or_item w l = at_item w [] (w ∷ l) (w ∷ l)

abbrev pub header_in : List What → List What
header_in [] = []
header_in (w ∷ l) = or_item w (header_in l)

-- ---- of a whole message
abbrev pub notes_of : Reading (Ended (List Entry)) → List Entry
notes_of (on r) = r.notes
notes_of (stop n p) = []

abbrev pub the_items : List ℕ → List Item
the_items m = items_of (notes_of (noted listed (message m) []))

abbrev pub the_header : List ℕ → List What
the_header m = header_in (whats (notes_of (noted listed (message m) [])))

-- "18: asked for an item not there (from 0)", at 0
abbrev pub item_from : ℕ → List Item → Located
item_from i [] = not_there 18 0
item_from zero (x ∷ l) = lies x.from x.to
item_from (suc i) (x ∷ l) = item_from i l

-- the judge's own refusal first
abbrev pub asked : ℕ → List Item → Judged → Located
asked i l (accepted count cents) = item_from i l
asked i l (refused n p) = not_there n p

unfoldable pub item : ℕ → List ℕ → Located
item i m = asked i (the_items m) (judged m)
