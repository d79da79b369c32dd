-- A bulk's text and what it says, part by part.
use mathlib.Core.Path.{◌≡◌, refl, ap, ◌∙◌}
use mathlib.Core.Bool.{true}
use mathlib.Core.List.{List, [], ◌∷◌, ◌++◌, append-nil, append_assoc}
use Prim.Native.Nat.{ℕ, ◌+◌}
use native.Mathlib.Omega.{arith}
use lib.ListN.{length}
use Rattle.text.proofs.Truths.{never}
use Rattle.tags.specs.Tags.{plain_tag, end_tag}
use Rattle.profile.specs.declared.Kind.TheVariants.{Count}
use Rattle.profile.specs.declared.Version.{Version}
use Rattle.profile.specs.declared.Version.TheVariants.{V02, V08}
use Rattle.profile.specs.Tree.{Occ, many, Shape}
use Rattle.profile.specs.Profile.{bulk_name, item_name, in_header, in_item}
use Rattle.reading.specs.Trace.{What, item_ends}
use Rattle.reading.specs.Rules.{items_in, values_of}
use Rattle.reading.proofs.Lists.{items_append, values_append}
use Rattle.documents.specs.Document.{Doc, texts, text, Each, LedBy, Proper}
use Rattle.documents.specs.Said.{each, said}
use Rattle.documents.specs.Message.{head, whole}
use Rattle.documents.proofs.Often.{any_item, times, fixed, a_kind, as_often, weight_items, of_kind_lem}
use Rattle.bulks.specs.Bulk.{tree, DocItem, Bulk, message, header_text, item_text, front}

-- ---- its text
abbrev pub back : {v : Version} → Bulk v → List ℕ
back b = end_tag bulk_name ++ (b.last ++ (end_tag "Document" ++ b.behind))

spread : (hd bl ft ht its cl et la dt bh : List ℕ)
    → hd ++ ((((bl ++ (ft ++ ((ht ++ []) ++ (its ++ (cl ++ et))))) ++ []) ++ (la ++ dt)) ++ bh) ≡ (hd ++ (bl ++ (ft ++ ht))) ++ (its ++ (cl ++ (et ++ (la ++ (dt ++ bh)))))
spread hd bl ft ht its cl et la dt bh = simp (append_assoc, append-nil)

pub whole_parts : {v : Version} (o : Occ) (b : Bulk v) → whole (message o b) ≡ front b ++ (texts (item_text v) b.items ++ (b.close ++ back b))
whole_parts {v} o b =
    spread (head (message o b)) b.blank (plain_tag bulk_name) (header_text v b.header) (texts (item_text v) b.items) b.close (end_tag bulk_name) b.last (end_tag "Document") b.behind

-- ---- what it says: its header, and then its items
abbrev pub items_said : (v : Version) → List (DocItem v) → List What
items_said v = each many item_name (said (in_item v))

pub said_parts : {v : Version} (b : Bulk v) → said (tree many v) (message many b).inside ≡ said (in_header v) b.header.held ++ items_said v b.items
said_parts b = simp append-nil

-- no item stands within the header or within another item, and no count within an item
pub itemless : Shape → Type 0
itemless sh = (fixed any_item sh ≡ true) × (times any_item sh ≡ 0)

pub header_itemless : (v : Version) → itemless (in_header v)
unfolding in_header itemless
header_itemless V02 = (refl, refl)
header_itemless V08 = (refl, refl)

pub item_itemless : (v : Version) → itemless (in_item v)
unfolding in_item itemless
item_itemless V02 = (refl, refl)
item_itemless V08 = (refl, refl)

item_countless : (v : Version) → (fixed (a_kind Count) (in_item v) ≡ true) × (times (a_kind Count) (in_item v) ≡ 0)
unfolding in_item
item_countless V02 = (refl, refl)
item_countless V08 = (refl, refl)

pub no_items : (sh : Shape) → itemless sh → (d : Doc sh) → Proper sh d → items_in (said sh d) ≡ 0
unfolding itemless
no_items sh h d pr = weight_items (said sh d) ∙ as_often any_item sh h.0 d pr ∙ h.1

no_values : (l : List (List ℕ)) → length l ≡ 0 → l ≡ []
no_values [] e = refl
no_values (x ∷ l) e = never (omega arith)

no_counts : (v : Version) (d : Doc (in_item v)) → Proper (in_item v) d → values_of Count (said (in_item v) d) ≡ []
no_counts v d pr = no_values (values_of Count (said (in_item v) d)) (of_kind_lem Count (in_item v) (item_countless v).0 d pr ∙ (item_countless v).1)

module _ (v : Version) where
  pub items_many : (l : List (DocItem v)) → Each (LedBy (Proper (in_item v))) l → items_in (items_said v l) ≡ length l
  items_many [] pr = refl
  items_many (x ∷ l) pr =
      let s = said (in_item v) x.held in
      omega (arith, items_append (s ++ (item_ends ∷ [])) (items_said v l), items_append s (item_ends ∷ []), no_items (in_item v) (item_itemless v) x.held pr.0.1, items_many l pr.1)

  items-countless : (l : List (DocItem v)) → Each (LedBy (Proper (in_item v))) l → values_of Count (items_said v l) ≡ []
  items-countless [] pr = refl
  items-countless (x ∷ l) pr =
      let s = said (in_item v) x.held in
      values_append Count (s ++ (item_ends ∷ [])) (items_said v l) ∙ rw (values_append Count s (item_ends ∷ []), no_counts v x.held pr.0.1, items-countless l pr.1)

module _ {v : Version} (b : Bulk v) (it : Each (LedBy (Proper (in_item v))) b.items) where
  pub items_said_lem : Proper (in_header v) b.header.held → items_in (said (tree many v) (message many b).inside) ≡ length b.items
  items_said_lem hd =
      ap items_in (said_parts b)
      ∙ (items_append (said (in_header v) b.header.held) (items_said v b.items)
      ∙ omega (arith, no_items (in_header v) (header_itemless v) b.header.held hd, items_many v b.items it))

  -- what its header says of the count is no matter of the items
  pub count_said : values_of Count (said (tree many v) (message many b).inside) ≡ values_of Count (said (in_header v) b.header.held)
  count_said =
      let s = said (in_header v) b.header.held in
      ap (values_of Count) (said_parts b)
      ∙ (values_append Count s (items_said v b.items) ∙ (rw (items-countless v b.items it) (append-nil (values_of Count s))))
