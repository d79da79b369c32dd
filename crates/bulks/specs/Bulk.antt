-- A bulk: a message's document, put as its header and its items.
use Rattle.std.specs.Prelude.{ℕ, ◌+◌, ◌≡◌, refl, Bool, List, [], ◌∷◌, ◌++◌, length}
use Rattle.tags.specs.Tags.{plain_tag}
use Rattle.profile.specs.declared.Version.{Version}
use Rattle.profile.specs.Tree.{Occ, once, many, Shape, end, group}
use Rattle.profile.specs.Profile.{bulk_name, header_name, item_name, in_header, in_item, profile}
use Rattle.reading.specs.Items.{Item}
use Rattle.postings.specs.Record.{record_for}
use Rattle.documents.specs.Document.{Led, Doc, led_text, text}
use Rattle.documents.specs.Said.{said}
use Rattle.documents.specs.Message.{Message, head}

-- the profile's tree, with items so often
abbrev pub tree : Occ → Version → Shape
tree o v =
    group once bulk_name
    (group once header_name (in_header v) (group o item_name (in_item v) (end bulk_name)))
    (end "Document")

pub profile_tree : (v : Version) → profile v ≡ tree many v
unfolding profile in_header in_item
profile_tree v = refl

-- an item as it stands: the white space before it, and what it holds
abbrev pub DocItem : Version → Type 0
DocItem v = Led (Doc (in_item v))

-- the header and the items; and the white space beside the tags around them
pub record Bulk (v : Version) : Type 0 where
  pub declared : Bool
  pub before : List ℕ
  pub blank : List ℕ
  pub header : Led (Doc (in_header v))
  pub items : List (DocItem v)
  pub close : List ℕ
  pub last : List ℕ
  pub behind : List ℕ

abbrev pub message : {v : Version} → (o : Occ) → Bulk v → Message v (tree o v)
message o b =
    record {
      declared = b.declared;
      before = b.before;
      inside = record {
        all = record { blank = b.blank; held = record { all = b.header ∷ []; others = record { all = b.items; others = b.close } } } ∷ [];
        others = b.last;
      };
      behind = b.behind;
    }

-- the same bulk with other items, and other white space behind them
abbrev pub with_items : {v : Version} → Bulk v → List (DocItem v) → List ℕ → Bulk v
with_items b l w =
    record {
      declared = b.declared;
      before = b.before;
      blank = b.blank;
      header = b.header;
      items = l;
      close = w;
      last = b.last;
      behind = b.behind;
    }

-- ---- its text: what stands before its items, and the items
abbrev pub header_text : (v : Version) → Led (Doc (in_header v)) → List ℕ
header_text v = led_text (plain_tag header_name) (text (in_header v))

abbrev pub item_text : (v : Version) → DocItem v → List ℕ
item_text v = led_text (plain_tag item_name) (text (in_item v))

abbrev pub front : {v : Version} → Bulk v → List ℕ
front {v = v} b = head (message many b) ++ (b.blank ++ (plain_tag bulk_name ++ header_text v b.header))

-- an item without the white space before it: "from the `<` of its start tag to the `>` of its end tag"
abbrev pub bare_text : (v : Version) → DocItem v → List ℕ
bare_text v x = plain_tag item_name ++ text (in_item v) x.held

-- ---- the items of a document that stand from a place on: where each lies, and what it says
abbrev pub items_from : (v : Version) → ℕ → List (DocItem v) → List Item
items_from v p [] = []
items_from v p (x ∷ l) =
    record { from = p + length x.blank; to = p + length (item_text v x); holds = said (in_item v) x.held } ∷ items_from v (p + length (item_text v x)) l

-- the record of an item's own values and its header's
abbrev pub item_record : (v : Version) → Led (Doc (in_header v)) → DocItem v → List ℕ
item_record v h x = record_for (said (in_header v) h.held ++ said (in_item v) x.held)
