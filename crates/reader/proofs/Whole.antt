-- The rows that reading begins with: the first is the whole profile's, and the item's row is an item.
use mathlib.Core.Path.{◌≡◌, sym, ap, ◌∙◌}
use mathlib.Core.List.{List}
use Prim.Native.Nat.{ℕ, ◌+◌, ◌≤◌, ◌<◌}
use native.Mathlib.Omega.{arith}
use lib.ListN.{length, drop}
use Rattle.tags.specs.declared.Look.TheVariants.{Whole}
use Rattle.tags.specs.Tags.{look, plain_tag}
use Rattle.tags.proofs.Looks.{exactly_length}
use Rattle.profile.specs.declared.Version.{Version}
use Rattle.profile.specs.Tree.{many, Shape, end, group}
use Rattle.profile.specs.Profile.{profile, in_item, item_name, bulk_name}
use Rattle.reading.specs.Trace.{trace}
use Rattle.reading.specs.Noted.{Reading, Ended}
use Rattle.table.specs.declared.Row.{Row}
use Rattle.table.specs.Table.{tags, table, many_rows, row_in, width, opens_by, due, item_row, Element}
use Rattle.table.proofs.Tied.{Tied}
use Rattle.table.proofs.Rows.{row_tied, due_first, due_item_lem, item_element, item_row_lem, item_tag_lem}
use Rattle.items.specs.Alone.{item_tag, item_body}
use Rattle.notes.specs.declared.Notes.{Notes}
use Rattle.notes.specs.Steps.{reads}
use Rattle.engine.specs.Engine.{placed}
use Rattle.engine.proofs.Elements.{enter_fits}
use Rattle.reader.specs.Reader.{element_in}

abbrev Found : Type 0
Found = Reading (Ended Notes)

module _ (v : Version) (m : List ℕ) (p : ℕ) (n : Notes) where
  pub profile_read : (x : Found) → x ≡ reads (trace (due v 0) m p) n → x ≡ reads (trace (profile v) m p) n
  profile_read x e = e ∙ ap (λ (sh : Shape). reads (trace sh m p) n) (due_first v)

  pub profile_placed : (l y : List ℕ) → y ≡ placed (trace (due v 0) m p) n l → y ≡ placed (trace (profile v) m p) n l
  profile_placed l y e = e ∙ ap (λ (sh : Shape). placed (trace sh m p) n l) (due_first v)

  pub item_read : (k : ℕ) → k ≡ item_row v → (x : Found) → x ≡ reads (element_in (due v k) m p) n → x ≡ reads (item_body v m p) n
  item_read k is x e = e ∙ (ap (λ (i : ℕ). reads (element_in (due v i) m p) n) is ∙ ap (λ (sh : Shape). reads (element_in sh m p) n) (due_item_lem v))

-- ---- the item's row: it may be entered where its start tag lies whole
module _ (v : Version) (names : List ℕ) (rs : List ℕ) (r : Row) (k : ℕ) (e : names ≡ tags v) (f : rs ≡ table v) (is : k ≡ item_row v) (h : r ≡ row_in rs k) where
  row_is : r ≡ row_in rs (item_row v)
  row_is = h ∙ ap (row_in rs) is

  pub item_start : opens_by names r ≡ item_tag
  item_start = item_tag_lem v names rs r e f row_is

  pub item_below : k < many_rows v
  item_below = omega (arith, is, item_row_lem v)

  pub item_there : Element (due v k)
  item_there = rw is (item_element v)

  pub item_within : (m : List ℕ) (p : ℕ) → p ≤ length m → Whole ≡ look (opens_by names r) (drop p m) → p + width (row_in (table v) k) ≤ length m
  item_within m p g c =
      let t : Tied v (item_row v) (group many item_name (in_item v) (end bulk_name)) r = rw (due_item_lem v) at (row_tied v rs (item_row v) r row_is f (item_row_lem v)).0 in
      let w : width (row_in (table v) k) ≡ width r = ap width (sym (h ∙ ap (λ (l : List ℕ). row_in l k) f)) in
      let l : length (opens_by names r) ≡ width r = ap length item_start ∙ (exactly_length (plain_tag item_name) ∙ sym t.width) in
      omega (arith, w, l, enter_fits (opens_by names r) m p g c)
