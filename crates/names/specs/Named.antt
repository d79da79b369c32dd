-- A message in which a name (Nm) or a remittance text (Ustrd) stands at any place.
use Rattle.std.specs.Prelude.{ℕ, List, ◌++◌}
use Prim.Native.String.{String}
use Rattle.words.specs.declared.Field.{Field}
use Rattle.words.specs.declared.Field.TheVariants.{Nm, Ustrd}
use Rattle.tags.specs.Tags.{plain_tag, end_tag}

abbrev pub tag_name : Field → String
tag_name Nm = "Nm"
tag_name Ustrd = "Ustrd"

-- any bytes x, the start tag, the value v, the end tag, any bytes y
abbrev pub named : Field → List ℕ → List ℕ → List ℕ → List ℕ
named f x v y = x ++ (plain_tag (tag_name f) ++ (v ++ (end_tag (tag_name f) ++ y)))
