-- What a message holds, as a tree, and words to write it down as the paper's indented list does.
use Prim.Native.String.{String}
use Rattle.std.specs.Prelude.{List, [], ◌∷◌}
use Rattle.profile.specs.declared.Kind.{Kind}
use Rattle.profile.specs.declared.Field.{Field}

-- 1; 0 or 1; 1 or more; and what is left of the last once one has come, 0 or more
pub data Occ : Type 0 where
  once optional many more : Occ

-- what is due up to the end of a group: its end tag; a value, and what is due after it; a group with what it holds, and what is due after it.
-- A value has its kind and the name of its field.
pub data Shape : Type 0 where
  end : String → Shape
  leaf : Occ → String → Kind → Field → Shape → Shape
  group : Occ → String → Shape → Shape → Shape

-- ---- words for it. A child is what it puts before the rest of its group
abbrev pub Child : Type 0
Child = Shape → Shape

abbrev pub children : List Child → Shape → Shape
children [] rest = rest
children (c ∷ l) rest = c (children l rest)

-- a field's kind
pub record Value : Type 0 where
  pub field : Field
  pub kind : Kind

infix 92 ◌of◌
infix 90 ◌is◌
infix 90 ◌may_be◌
infix 88 ◌holds◌
infix 88 ◌may_hold◌
infix 88 ◌repeats◌
infixr 85 ◌▹◌
abbrev pub ◌of◌ : Field → Kind → Value
◌of◌ f k = record { field = f; kind = k }

abbrev pub ◌is◌ : String → Value → Child
◌is◌ n v rest = leaf once n v.kind v.field rest

abbrev pub ◌may_be◌ : String → Value → Child
◌may_be◌ n v rest = leaf optional n v.kind v.field rest

abbrev pub ◌holds◌ : String → List Child → Child
◌holds◌ n l rest = group once n (children l (end n)) rest

abbrev pub ◌may_hold◌ : String → List Child → Child
◌may_hold◌ n l rest = group optional n (children l (end n)) rest

abbrev pub ◌repeats◌ : String → List Child → Child
◌repeats◌ n l rest = group many n (children l (end n)) rest

-- "A slash means a group with that one child."
abbrev pub ◌▹◌ : String → Child → Child
◌▹◌ n c rest = group once n (c (end n)) rest
