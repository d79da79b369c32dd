-- The versions of the message that are judged, and the name of each, as its root tag gives it.
use Rattle.std.specs.Prelude.{ℕ, List, [], ◌∷◌}
use Prim.Native.String.{String}
use Rattle.tags.specs.Tags.{root_tag}
use Rattle.profile.specs.declared.Version.{Version}
use Rattle.profile.specs.declared.Version.TheVariants.{V02, V08}

abbrev pub versions : List Version
versions = V02 ∷ V08 ∷ []

-- "the namespace ends in `.001.08`"
abbrev pub name_of : Version → String
name_of V02 = "urn:iso:std:iso:20022:tech:xsd:pacs.003.001.02"
name_of V08 = "urn:iso:std:iso:20022:tech:xsd:pacs.003.001.08"

-- "Then comes `<Document xmlns="urn:iso:std:iso:20022:tech:xsd:pacs.003.001.02">`."
abbrev pub root : Version → List ℕ
root v = root_tag (name_of v)
