-- An item read alone: from a place on, after white space, with nothing noted before it.
use Rattle.std.specs.Prelude.{ℕ, Bool, List, [], ◌∷◌}
use Rattle.tags.specs.Tags.{exactly, plain_tag}
use Rattle.profile.specs.declared.Version.{Version}
use Rattle.profile.specs.Tree.{once, many}
use Rattle.profile.specs.Profile.{item_name, in_item}
use Rattle.reading.specs.Trace.{What, Entry, Trace, up_to, group_body, turn, trace}
use Rattle.reading.specs.Noted.{Reading, Ended, noted}
use Rattle.reading.specs.Rules.{at_item}
use Rattle.reading.specs.Judged.{listed}

abbrev pub item_tag : List (ℕ → Bool)
item_tag = exactly (plain_tag item_name)

-- from the `<` of its start tag to behind its end tag
abbrev pub item_body : Version → List ℕ → ℕ → Trace
item_body v m = group_body many item_name (trace (in_item v) m)

unfoldable pub alone : Version → List ℕ → ℕ → Trace
alone v m = turn once item_name item_tag m (item_body v m) up_to up_to

abbrev pub read_alone : Version → List ℕ → ℕ → Reading (Ended (List Entry))
read_alone v m p = noted listed (alone v m p) []

-- the place of the first item's beginning, 0 where none begins
abbrev pub begin_or : What → ℕ → ℕ → ℕ
begin_or w p q = at_item w p q q

abbrev pub first_in : List Entry → ℕ
first_in [] = 0
first_in (e ∷ l) = begin_or e.what e.place (first_in l)
