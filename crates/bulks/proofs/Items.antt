-- The items of an accepted bulk's message are the bulk's: where each lies, and what it holds.
use mathlib.Core.Path.{◌≡◌, refl, sym, ap, subst, ◌∙◌}
use mathlib.Core.List.{List, [], ◌∷◌, ◌++◌, append-nil, append_assoc}
use Prim.Native.Nat.{ℕ, ◌+◌, ◌≤◌}
use native.Mathlib.Omega.{arith}
use lib.ListN.{length, drop, length-append}
use lib.Seq.{drop-append_seam}
use Rattle.text.proofs.Truths.{never}
use Rattle.tags.specs.Tags.{skipped, plain_tag}
use Rattle.tags.proofs.Looks.{look_text}
use Rattle.profile.specs.declared.Version.{Version}
use Rattle.profile.specs.Limits.{most_bytes}
use Rattle.profile.specs.Tree.{once, many, Shape}
use Rattle.profile.specs.Profile.{bulk_name, header_name, item_name, in_header, in_item, profile}
use Rattle.reading.specs.Trace.{What, item_begins, item_ends, there, absent, value, Entry, ◌at◌, up_to, trace, from, opened, message as the_trace}
use Rattle.reading.specs.Noted.{Ended, noted}
use Rattle.reading.specs.Rules.{begun, items_in}
use Rattle.reading.specs.Verdict.{accepted}
use Rattle.reading.specs.Judged.{whats, listed, judged}
use Rattle.reading.specs.Items.{Item, items_of, notes_of, the_items, or_item, header_in, the_header}
use Rattle.reading.proofs.Lists.{whats_append}
use Rattle.reading.proofs.Flat.{flat, Goes, Whole, goes_whole, goes_flat, one_end}
use Rattle.documents.specs.Document.{texts, text, Each, LedBy, Proper}
use Rattle.documents.specs.Said.{said}
use Rattle.documents.specs.Message.{Message, head, whole, Lawful}
use Rattle.documents.specs.Holds.{Holds}
use Rattle.documents.proofs.Sure.{header_sure, item_sure}
use Rattle.documents.proofs.Texts.{past, plain_starts, skip_to}
use Rattle.documents.proofs.Told.{Told, told_as}
use Rattle.documents.proofs.Rows.{turn_tells}
use Rattle.documents.proofs.Complete.{group_told, trace_tells}
use Rattle.documents.proofs.Messages.{opens, message_told}
use Rattle.documents.proofs.Exactly.{document_accepted}
use Rattle.items.specs.Alone.{item_tag, item_body, alone}
use Rattle.items.specs.Chain.{around, Stands, Chained, none, next, Itemized}
use Rattle.items.proofs.Chains.{Behind, profile_chained}
use Rattle.items.proofs.Accepted.{accepted_chained}
use Rattle.bulks.specs.Bulk.{tree, profile_tree, DocItem, Bulk, message, item_text, front, items_from}
use Rattle.bulks.specs.Accepted.{Bulked}
use Rattle.bulks.proofs.Parts.{back, whole_parts, items_said, said_parts, header_itemless, no_items, items_said_lem}

-- ---- lists that end alike
same_front : {A : Type 0} (a b : List A) (x y : A) → a ++ (x ∷ []) ≡ b ++ (y ∷ []) → a ≡ b
same_front [] [] x y e = refl
same_front [] (c ∷ []) x y e = let z : ◌≡◌ [] (y ∷ []) = cc in cc
same_front [] (c ∷ d ∷ b) x y e = let z : ◌≡◌ [] (d ∷ b ++ (y ∷ [])) = cc in cc
same_front (c ∷ []) [] x y e = let z : ◌≡◌ (x ∷ []) [] = cc in cc
same_front (c ∷ d ∷ a) [] x y e = let z : ◌≡◌ (d ∷ a ++ (x ∷ [])) [] = cc in cc
same_front (c ∷ a) (d ∷ b) x y e =
    let f : c ≡ d = cc in
    let g : a ++ (x ∷ []) ≡ b ++ (y ∷ []) = cc in
    let h : a ≡ b = same_front a b x y g in
    cc

module _ (v : Version) (m : List ℕ) where
  -- ---- an item's text is read alone, and tells what the item says
  alone-told : (e : DocItem v) → LedBy (Proper (in_item v)) e → (p : ℕ) (s : List ℕ) → drop p m ≡ item_text v e ++ s
      → Told (alone v m p) (p + length (item_text v e)) (item_begins ∷ (said (in_item v) e.held ++ (item_ends ∷ [])))
  unfolding alone
  alone-told e pr p s h =
      told_as (ap (λ (t : List ℕ). p + length t) (append-nil (item_text v e))) (append-nil (item_begins ∷ (said (in_item v) e.held ++ (item_ends ∷ []))))
      (turn_tells m many item_name item_tag (plain_tag item_name) (text (in_item v)) (said (in_item v)) (Proper (in_item v)) (item_body v m) (plain_starts item_name) (look_text (plain_tag item_name))
      (λ e h. group_told m many item_name (trace (in_item v) m) (text (in_item v)) (said (in_item v)) e (trace_tells m (in_item v) (item_sure v) e.held h))
      once e pr up_to up_to [] [] (λ q s z. told_as (omega arith) refl (record { whole = refl; says = refl })) p s (h ∙ ap (λ (t : List ℕ). t ++ s) (sym (append-nil (item_text v e)))))

  abbrev lying : ℕ → DocItem v → Item
  lying p e = record { from = p + length e.blank; to = p + length (item_text v e); holds = said (in_item v) e.held }

  -- so an item that stands there is the one whose text does
  stands-itself : (e : DocItem v) → LedBy (Proper (in_item v)) e → (p : ℕ) (s : List ℕ) → drop p m ≡ item_text v e ++ s → (x : Item) → Stands v m p x → x ≡ lying p e
  stands-itself e pr p s h x k =
      let t = alone-told e pr p s h in
      let r : Ended (List Entry) = record { at = x.to; notes = around x k.inner } in
      let a : x.to ≡ p + length (item_text v e) = one_end (alone v m p) x.to (p + length (item_text v e)) (goes_whole (alone v m p) [] r k.alone) t.whole in
      let b : x.from ≡ p + length e.blank =
      sym k.from ∙ skip_to m p e.blank (plain_tag item_name ++ (text (in_item v) e.held ++ s)) pr.0 (plain_starts item_name (text (in_item v) e.held ++ s)) (h ∙ simp append_assoc) in
      let c : item_begins ∷ (whats k.inner ++ (item_ends ∷ [])) ≡ item_begins ∷ (said (in_item v) e.held ++ (item_ends ∷ [])) =
      ap (λ (l : List What). item_begins ∷ l) (sym (whats_append k.inner ((item_ends at x.to) ∷ []))) ∙ (ap whats (goes_flat (alone v m p) [] r k.alone) ∙ t.says) in
      let d : whats k.inner ++ (item_ends ∷ []) ≡ said (in_item v) e.held ++ (item_ends ∷ []) = cc in
      let f : x.holds ≡ said (in_item v) e.held = sym k.holds ∙ same_front (whats k.inner) (said (in_item v) e.held) item_ends item_ends d in
      same b a f
    where
      same : {a b : ℕ} {l : List What} → x.from ≡ a → x.to ≡ b → x.holds ≡ l → x ≡ record { from = a; to = b; holds = l }
      same p q r = rw (← p, ← q, ← r)

  aligned : {p : ℕ} {l : List Item} → Chained v m p l → (es : List (DocItem v)) → Each (LedBy (Proper (in_item v))) es → (s : List ℕ) → drop p m ≡ texts (item_text v) es ++ s
      → length l ≡ length es → l ≡ items_from v p es
  aligned none [] pr s h n = refl
  aligned none (e ∷ es) pr s h n = never (omega arith)
  aligned (next k c) [] pr s h n = never (omega arith)
  aligned {p} (next {x = x} {l = l} k c) (e ∷ es) pr s h n =
      let g : drop p m ≡ item_text v e ++ (texts (item_text v) es ++ s) = h ∙ append_assoc (item_text v e) (texts (item_text v) es) s in
      let y : x ≡ lying p e = stands-itself e pr.0 p (texts (item_text v) es ++ s) g x k in
      let q : x.to ≡ p + length (item_text v e) = ap (λ (i : Item). i.to) y in
      let d : drop x.to m ≡ texts (item_text v) es ++ s = ap (λ (i : ℕ). drop i m) q ∙ past m (item_text v e) (texts (item_text v) es ++ s) p g in
      let r : l ≡ items_from v (p + length (item_text v e)) es = aligned c es pr.1 s d (omega arith) ∙ ap (λ (i : ℕ). items_from v i es) q in
      rw (y, r)

-- what is said before the first item is the header
module _ (v : Version) where
  header-before : (a : List What) (l : List (DocItem v)) → items_in a ≡ 0 → header_in (a ++ items_said v l) ≡ a
  header-before [] [] e = refl
  header-before [] (x ∷ l) e = refl
  header-before (w ∷ a) l e = go w e (header-before a l)
    where
      go : (w : What) → begun w + items_in a ≡ 0 → (items_in a ≡ 0 → header_in (a ++ items_said v l) ≡ a) → or_item w (header_in (a ++ items_said v l)) ≡ w ∷ a
      go item_begins e k = never (omega (arith, e))
      go item_ends e k = ap (λ (x : List What). item_ends ∷ x) (k (omega (arith, e)))
      go (there n) e k = ap (λ (x : List What). there n ∷ x) (k (omega (arith, e)))
      go (absent n) e k = ap (λ (x : List What). absent n ∷ x) (k (omega (arith, e)))
      go (value i f y) e k = ap (λ (x : List What). value i f y ∷ x) (k (omega (arith, e)))

-- a message is opened in one way
reads_as : (m : List ℕ) (u v : Version) (p q : ℕ) → from u p ≡ from v q → (r : Ended (List Entry)) → Goes (trace (profile u) m p) [] r → Goes (trace (profile v) m q) [] r
reads_as m u v p q e r g =
    let y : u ≡ v = cc in
    let z : p ≡ q = cc in
    rw (← y, ← z) g

-- ---- a bulk's items stand behind its header
module _ {v : Version} (b : Bulk v) (law : Lawful (message many b)) where
  abbrev pub rest : List ℕ
  rest = texts (item_text v) b.items ++ (b.close ++ back b)

  pub items_proper : Each (LedBy (Proper (in_item v))) b.items
  items_proper = law.inside.1.0.1.2.1

  pub header_proper : LedBy (Proper (in_header v)) b.header
  header_proper = law.inside.1.0.1.1.0

  -- where what the header holds begins
  abbrev pub in_head : ℕ
  in_head = length (head (message many b)) + length b.blank + length (plain_tag bulk_name) + length b.header.blank + length (plain_tag header_name)

  front_long : length (front b) ≡ in_head + length (text (in_header v) b.header.held)
  front_long =
      let x = b.header.blank in
      let t = text (in_header v) b.header.held in
      omega (
        arith,
        length-append (head (message many b)) (b.blank ++ (plain_tag bulk_name ++ (x ++ (plain_tag header_name ++ t)))),
        length-append b.blank (plain_tag bulk_name ++ (x ++ (plain_tag header_name ++ t))),
        length-append (plain_tag bulk_name) (x ++ (plain_tag header_name ++ t)),
        length-append x (plain_tag header_name ++ t),
        length-append (plain_tag header_name) t,
      )

  pub items_there : drop (length (front b)) (whole (message many b)) ≡ rest
  items_there = ap (drop (length (front b))) (whole_parts many b) ∙ drop-append_seam (front b) rest

  -- what stands behind its head, behind the bulk's start tag and behind the header's
  abbrev pub after_head : List ℕ
  after_head = text (in_header v) b.header.held ++ rest

  abbrev pub after_bulk : List ℕ
  after_bulk = b.header.blank ++ (plain_tag header_name ++ after_head)

  abbrev pub hd : ℕ
  hd = length (head (message many b))

  pub at_bulk : drop (length (head (message many b))) (whole (message many b)) ≡ b.blank ++ (plain_tag bulk_name ++ after_bulk)
  at_bulk = ap (drop hd) (whole_parts many b ∙ simp append_assoc) ∙ drop-append_seam (head (message many b)) (b.blank ++ (plain_tag bulk_name ++ after_bulk))

  pub at_header : drop (hd + length b.blank + length (plain_tag bulk_name)) (whole (message many b)) ≡ after_bulk
  at_header =
      let m = whole (message many b) in
      past m (plain_tag bulk_name) after_bulk (hd + length b.blank) (past m b.blank (plain_tag bulk_name ++ after_bulk) hd at_bulk)

  -- the header is read to where the items stand, and tells what it says
  pub header_told : Told (trace (in_header v) (whole (message many b)) in_head) (length (front b)) (said (in_header v) b.header.held)
  header_told = rw front_long (trace_tells m (in_header v) (header_sure v) b.header.held header_proper.1 in_head rest there)
    where
      m : List ℕ
      m = whole (message many b)

      there : drop in_head m ≡ after_head
      there =
          past m (plain_tag header_name) after_head (hd + length b.blank + length (plain_tag bulk_name) + length b.header.blank)
          (past m b.header.blank (plain_tag header_name ++ after_head) (hd + length b.blank + length (plain_tag bulk_name)) at_header)

  header-ends : (h : ℕ)
      → Whole (trace (in_header v) (whole (message many b)) (skipped (whole (message many b)) (skipped (whole (message many b)) (length (head (message many b))) + length (plain_tag bulk_name)) + length (plain_tag header_name))) h
      → h ≡ length (front b)
  header-ends h w = one_end (trace (in_header v) m in_head) h (length (front b)) (rw at_head at w) header_told.whole
    where
      m : List ℕ
      m = whole (message many b)

      s0 : skipped m hd ≡ hd + length b.blank
      s0 = skip_to m hd b.blank (plain_tag bulk_name ++ after_bulk) law.inside.1.0.0 (plain_starts bulk_name after_bulk) at_bulk

      s1 : skipped m (hd + length b.blank + length (plain_tag bulk_name)) ≡ hd + length b.blank + length (plain_tag bulk_name) + length b.header.blank
      s1 = skip_to m (hd + length b.blank + length (plain_tag bulk_name)) b.header.blank (plain_tag header_name ++ after_head) header_proper.0 (plain_starts header_name after_head) at_header

      at_head : skipped m (skipped m hd + length (plain_tag bulk_name)) + length (plain_tag header_name) ≡ in_head
      at_head = ap (λ (i : ℕ). skipped m (i + length (plain_tag bulk_name)) + length (plain_tag header_name)) s0 ∙ ap (λ (i : ℕ). i + length (plain_tag header_name)) s1

  -- ---- where it is accepted
  module _ (n c : ℕ) (e : judged (whole (message many b)) ≡ accepted n c) where
    pub bulk_holds : Holds (said (tree many v) (message many b).inside) n c
    bulk_holds = subst P (profile_tree v) (λ d l. document_accepted d l n c) (message many b) law e
      where
        P : Shape → Type 0
        P sh = (d : Message v sh) → Lawful d → judged (whole d) ≡ accepted n c → Holds (said sh d.inside) n c

    pub many_items : length b.items ≡ n
    many_items = sym (items_said_lem b items_proper header_proper.1) ∙ bulk_holds.items

    -- what is read in its message is what it says; before its first item, what its header says
    pub bulk_read : whats (notes_of (noted listed (the_trace (whole (message many b))) [])) ≡ said (in_header v) b.header.held ++ items_said v b.items
    bulk_read =
        let m = whole (message many b) in
        let x = accepted_chained m n c e in
        ap (λ r. whats (notes_of r)) x.goes
        ∙ (ap whats (goes_flat (the_trace m) [] (record { at = x.last; notes = x.ended.notes }) x.goes)
        ∙ (subst P (profile_tree v) (λ d l h. (message_told d l h).says) (message many b) law x.short ∙ said_parts b))
      where
        P : Shape → Type 0
        P sh = (d : Message v sh) → Lawful d → length (whole d) ≤ most_bytes → whats (flat (the_trace (whole d))) ≡ said sh d.inside

    pub header_itself : the_header (whole (message many b)) ≡ said (in_header v) b.header.held
    header_itself = ap header_in bulk_read ∙ header-before v (said (in_header v) b.header.held) b.items (no_items (in_header v) (header_itemless v) b.header.held header_proper.1)

    pub items_itself : the_items (whole (message many b)) ≡ items_from v (length (front b)) b.items
    items_itself = aligned v m (rw (headed, items) at k.items.here) b.items items_proper (b.close ++ back b) items_there (x.many ∙ sym many_items)
      where
        m : List ℕ
        m = whole (message many b)

        hd : ℕ
        hd = length (head (message many b))

        x : Itemized m n
        x = accepted_chained m n c e

        opened-as : from x.version x.place ≡ from v hd
        opened-as = sym x.opens ∙ opens (message many b) law (text (tree many v) (message many b).inside ++ b.behind)

        reads : Goes (trace (profile v) m hd) [] x.ended
        reads = reads_as m x.version v x.place hd opened-as x.ended x.reads

        k : Behind m v (trace (profile v) m hd) (skipped m (skipped m hd + length (plain_tag bulk_name)) + length (plain_tag header_name))
        k = profile_chained m v hd [] x.ended reads

        headed : k.headed ≡ length (front b)
        headed = header-ends k.headed k.header

        items : items_of (flat (trace (profile v) m hd)) ≡ the_items m
        items = ap items_of (sym (goes_flat (trace (profile v) m hd) [] x.ended reads)) ∙ ap (λ r. items_of (notes_of r)) (sym x.goes)

-- The items of an accepted message are those of its bulk, as many as its count: where each lies, and what it says.
module _ (m : List ℕ) (n c : ℕ) (e : judged m ≡ accepted n c) (k : Bulked m) where
  pub its_judgement : judged (whole (message many k.bulk)) ≡ accepted n c
  its_judgement = ap judged (sym k.is) ∙ e

  pub accepted_many : length k.bulk.items ≡ n
  accepted_many = many_items k.bulk k.lawful n c its_judgement

  pub accepted_items : the_items m ≡ items_from k.version (length (front k.bulk)) k.bulk.items
  accepted_items = ap the_items k.is ∙ items_itself k.bulk k.lawful n c its_judgement

  pub accepted_header : the_header m ≡ said (in_header k.version) k.bulk.header.held
  accepted_header = ap the_header k.is ∙ header_itself k.bulk k.lawful n c its_judgement
