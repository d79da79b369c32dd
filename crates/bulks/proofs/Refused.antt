-- Of two bulks with one header, one of them accepted: the other is refused if it has more items, or fewer.
use mathlib.Core.Path.{◌≡◌, refl, sym, ap, ◌∙◌}
use mathlib.Core.List.{List, [], ◌∷◌, ◌++◌}
use Prim.Native.Nat.{ℕ}
use native.Mathlib.Omega.{arith}
use lib.ListN.{length}
use Rattle.profile.specs.declared.Kind.TheVariants.{Count}
use Rattle.profile.specs.declared.Version.{Version}
use Rattle.profile.specs.Tree.{Occ, once, many, more, Shape, end, group}
use Rattle.profile.specs.Profile.{bulk_name, header_name, item_name, in_header, in_item}
use Rattle.reading.specs.Rules.{values_of}
use Rattle.reading.specs.Verdict.{Refusal, Judged, accepted, refused}
use Rattle.reading.specs.Judged.{judged}
use Rattle.documents.specs.Document.{Led, Doc, text, Each, LedBy, Proper}
use Rattle.documents.specs.Said.{said}
use Rattle.documents.specs.Message.{Message, head, whole, Lawful}
use Rattle.documents.specs.Holds.{numbers, Holds}
use Rattle.documents.proofs.Messages.{opens}
use Rattle.documents.proofs.One.{message_one}
use Rattle.bulks.specs.Bulk.{tree, DocItem, Bulk, message, with_items}
use Rattle.bulks.proofs.Trees.{more_sure, Of, accepted_of}
use Rattle.bulks.proofs.Parts.{items_said_lem, count_said}
use Rattle.bulks.proofs.Items.{items_proper, header_proper, bulk_holds, many_items}

refusal : (j : Judged) → ((n c : ℕ) → j ≡ accepted n c → ⊥) → Refusal j
refusal (accepted n c) h = absurd (h n c refl)
refusal (refused n p) h = record { number = n; place = p; is = refl }

-- ---- a document of the profile is one of the tree that asks for no item
each_as : {A : Type 0} (P Q : A → Type 0) → ((x : A) → P x → Q x) → (l : List A) → Each P l → Each Q l
each_as P Q h [] e = tt
each_as P Q h (x ∷ l) e = (h x e.0, each_as P Q h l e.1)

module _ (v : Version) where
  abbrev content : Occ → Shape
  content o = group once header_name (in_header v) (group o item_name (in_item v) (end bulk_name))

  abbrev as_more : Message v (tree many v) → Message v (tree more v)
  as_more d = record { declared = d.declared; before = d.before; inside = d.inside; behind = d.behind }

  content-more : (d : Led (Doc (content many))) → LedBy (Proper (content many)) d → LedBy (Proper (content more)) d
  content-more d h = (h.0, (h.1.0, h.1.1, (omega arith, h.1.2.1, h.1.2.2)))

  more-lawful : (d : Message v (tree many v)) → Lawful d → Lawful (as_more d)
  more-lawful d law =
      let i = law.inside in
      record { before = law.before; inside = (i.0, each_as (LedBy (Proper (content many))) (LedBy (Proper (content more))) content-more d.inside.all i.1, i.2); behind = law.behind }

-- ---- the number of items
one_number : (l : List (List ℕ)) (n i : ℕ) → numbers l ≡ n ∷ [] → numbers l ≡ i ∷ [] → n ≡ i
one_number l n i e f = cc

module _ {v : Version} (b : Bulk v) (l : List (DocItem v)) (w : List ℕ) (law : Lawful (message many b)) (law' : Lawful (message more (with_items b l w))) (n c : ℕ)
    (e : judged (whole (message many b)) ≡ accepted n c) where
  same_number : (i j : ℕ) → judged (whole (message more (with_items b l w))) ≡ accepted i j → length l ≡ length b.items
  same_number i j f =
      let hd = length (head (message more o)) in
      let p = accepted_of (whole (message more o)) i j f v hd (opens (message more o) law' (text (tree more v) (message more o).inside ++ o.behind)) in
      let d = p.message in
      let s : as_more v d ≡ message more o = message_one (more_sure v) (as_more v d) (message more o) (more-lawful v d p.lawful) law' (sym p.is) in
      let t : d.inside ≡ (message many o).inside = ap (λ (x : Message v (tree more v)). x.inside) s in
      let h : Holds (said (tree many v) (message many o).inside) i j = rw t at p.holds in
      let k = bulk_holds b law n c e in
      let x : n ≡ i =
      one_number (values_of Count (said (in_header v) b.header.held)) n i (ap numbers (sym (count_said b (items_proper b law))) ∙ k.count) (ap numbers (sym (count_said o proper)) ∙ h.count) in
      omega (arith, x, items_said_lem o proper (header_proper b law).1, h.items, many_items b law n c e)
    where
      o : Bulk v
      o = with_items b l w

      proper : Each (LedBy (Proper (in_item v))) l
      proper = law'.inside.1.0.1.2.1

  -- Of two bulks that are the same but for their items, and the white space behind them: where the one is accepted, the other is refused if it has more items, or fewer, or none.
  pub bulk_refused : (length l ≡ length b.items → ⊥) → Refusal (judged (whole (message more (with_items b l w))))
  bulk_refused ne = refusal (judged (whole (message more (with_items b l w)))) (λ i j f. ne (same_number i j f))
