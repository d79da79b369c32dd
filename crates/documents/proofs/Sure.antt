-- At each place of a tree one tag tells what comes: a tag that may be passed over differs, within both, from every tag that may come instead.
use mathlib.Core.Path.{◌≡◌, refl}
use mathlib.Core.Bool.{Bool, true}
use mathlib.Core.List.{List}
use Prim.Native.Nat.{ℕ}
use Rattle.text.specs.Truth.{both}
use Rattle.tags.specs.Tags.{look, exactly, end_tag, plain_tag, start_tag}
use Rattle.tags.proofs.Looks.{is_other}
use Rattle.profile.specs.declared.Version.{Version}
use Rattle.profile.specs.declared.Version.TheVariants.{V02, V08}
use Rattle.profile.specs.Kinds.{is_amount}
use Rattle.profile.specs.Tree.{Occ, once, optional, many, more, Shape, end, leaf, group}
use Rattle.profile.specs.Profile.{in_header, in_item, profile}
use Rattle.documents.specs.Document.{opening}

-- an element that need not come, or that may come again, asks for more
abbrev pub unless_once : Occ → Bool → Bool
unless_once once b = true
unless_once optional b = b
unless_once many b = b
unless_once more b = b

abbrev pub unless_due : Occ → Bool → Bool
unless_due once b = true
unless_due optional b = b
unless_due many b = true
unless_due more b = b

-- a tag is none of those that may come first
abbrev pub apart : List (ℕ → Bool) → Shape → Bool
apart t (end n) = is_other (look t (end_tag n))
apart t (leaf o n k f rest) = both (is_other (look t (opening k n))) (unless_due o (apart t rest))
apart t (group o n inner rest) = both (is_other (look t (plain_tag n))) (unless_due o (apart t rest))

abbrev pub sure : Shape → Bool
sure (end n) = true
sure (leaf o n k f rest) = both (unless_once o (apart (start_tag (is_amount k) n) rest)) (sure rest)
sure (group o n inner rest) = both (unless_once o (apart (exactly (plain_tag n)) rest)) (both (sure inner) (sure rest))

-- ---- it is so in the profile, in its header and in an item
pub profile_sure : (v : Version) → sure (profile v) ≡ true
unfolding profile
profile_sure V02 = refl
profile_sure V08 = refl

pub header_sure : (v : Version) → sure (in_header v) ≡ true
unfolding in_header
header_sure V02 = refl
header_sure V08 = refl

pub item_sure : (v : Version) → sure (in_item v) ≡ true
unfolding in_item
item_sure V02 = refl
item_sure V08 = refl
