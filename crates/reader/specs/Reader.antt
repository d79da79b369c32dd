-- What each function of the table-led engine reads: parts of the trace, by the tests of a row's tags.
use Rattle.std.specs.Prelude.{ℕ, ◌+◌, Bool, List}
use Prim.Native.String.{String}
use Rattle.tags.specs.Tags.{exactly, plain_tag, start_tag}
use Rattle.profile.specs.Kinds.{is_amount}
use Rattle.profile.specs.Tree.{Occ, once, Shape, end, leaf, group}
use Rattle.reading.specs.Trace.{Trace, up_to, begins, priced, leaf_body, group_body, trace}
use Rattle.items.specs.Sums.{of_amount, of_others, amounts_in}

-- past a start tag of w bytes
abbrev pub entered : Occ → String → Bool → ℕ → List ℕ → ℕ → Trace
entered o n amount w m p = begins o n p (priced amount m (p + w))

-- ---- an element: how often it may come, its name, the tests of its start tag, its body, and what is due after it
abbrev pub occ_in : Shape → Occ
occ_in (end n) = once
occ_in (leaf o n k f rest) = o
occ_in (group o n inner rest) = o

abbrev pub name_in : Shape → String
name_in (end n) = n
name_in (leaf o n k f rest) = n
name_in (group o n inner rest) = n

abbrev pub tag_in : Shape → List (ℕ → Bool)
tag_in (end n) = exactly (plain_tag n)
tag_in (leaf o n k f rest) = start_tag (is_amount k) n
tag_in (group o n inner rest) = exactly (plain_tag n)

abbrev pub element_in : Shape → List ℕ → ℕ → Trace
element_in (end n) m p = up_to p
element_in (leaf o n k f rest) m p = leaf_body o n k f m p
element_in (group o n inner rest) m p = group_body o n (trace inner m) p

abbrev pub rest_in : Shape → Shape
rest_in (end n) = end n
rest_in (leaf o n k f rest) = rest
rest_in (group o n inner rest) = rest

-- how many amounts are due in an element: an item has its own
abbrev pub amounts_of : Shape → ℕ
amounts_of (end n) = 0
amounts_of (leaf o n k f rest) = of_others o (of_amount k)
amounts_of (group o n inner rest) = of_others o (amounts_in inner)
