-- The fields that are surely in what is due.
use Rattle.std.specs.Prelude.{Bool, true, false}
use Rattle.text.specs.Truth.{both, either}
use Rattle.profile.specs.declared.Field.{Field}
use Rattle.profile.specs.Fields.{same_field}
use Rattle.profile.specs.Tree.{Occ, once, optional, many, more, Shape, end, leaf, group}

-- an element that stands at least once
abbrev pub always : Occ → Bool
always once = true
always optional = false
always many = true
always more = false

abbrev pub sure : Field → Shape → Bool
sure g (end n) = false
sure g (leaf o n k f rest) = either (both (always o) (same_field f g)) (sure g rest)
sure g (group o n inner rest) = either (both (always o) (sure g inner)) (sure g rest)
