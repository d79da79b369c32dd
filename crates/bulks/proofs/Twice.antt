-- One item of an accepted bulk standing twice in succession: how the bulk is then refused.
use mathlib.Core.Path.{◌≡◌, refl, sym, ap, subst, ◌∙◌}
use mathlib.Core.Logic.{◌⊎◌, inl, inr}
use mathlib.Core.List.{List, [], ◌∷◌, ◌++◌, append-nil, append_assoc}
use Prim.Native.Nat.{ℕ, suc, ◌+◌, ◌≤◌, ◌<◌}
use native.Mathlib.Omega.{arith}
use borrow.Author.Tests.{lt-ltb}
use lib.ListN.{length, drop, length-append}
use Rattle.text.proofs.Truths.{never, lt_or_ge}
use Rattle.tags.specs.declared.Look.TheVariants.{Whole as Lies}
use Rattle.tags.specs.Tags.{skipped, look, plain_tag}
use Rattle.tags.proofs.Looks.{look_text}
use Rattle.profile.specs.declared.Field.{Field}
use Rattle.profile.specs.declared.Field.TheVariants.{TxId}
use Rattle.profile.specs.declared.Version.{Version}
use Rattle.profile.specs.Limits.{most_bytes, most_items}
use Rattle.profile.specs.Tree.{Occ, many, Shape}
use Rattle.profile.specs.Profile.{item_name, in_header, in_item, profile}
use Rattle.reading.specs.Trace.{What, item_begins, item_ends, value, Entry, ◌at◌, Trace, met, up_to, fault, trace, message as the_trace}
use Rattle.reading.specs.Rules.{items_in, of_field, values_at, types_in}
use Rattle.reading.specs.Verdict.{Refusal, Judged, accepted, refused}
use Rattle.reading.specs.Judged.{whats, place_in, judged}
use Rattle.reading.proofs.Lists.{whats_append, items_append, types_append}
use Rattle.reading.proofs.Flat.{flat}
use Rattle.documents.specs.Document.{texts, text, Often, Each, White, LedBy, Proper}
use Rattle.documents.specs.Said.{said}
use Rattle.documents.specs.Message.{Message, whole, Lawful}
use Rattle.documents.proofs.Each.{each_both, each_first, each_rest}
use Rattle.documents.proofs.Texts.{past, plain_starts, skip_to}
use Rattle.documents.proofs.Standing.{one_item, item_references}
use Rattle.documents.proofs.Lists.{Kept, kept_first, holds_kept, listed_stops, listed_all, decided}
use Rattle.documents.proofs.Twice.{FirstId, first_id, once, again, again_kept, full_refused, twice_refused}
use Rattle.documents.proofs.Exactly.{judged_told}
use Rattle.items.specs.Alone.{item_tag, item_body, alone}
use Rattle.items.proofs.Stands.{inside, item_flat, as_alone}
use Rattle.bulks.specs.Bulk.{tree, profile_tree, DocItem, Bulk, message, with_items, item_text, front, bare_text}
use Rattle.bulks.specs.Twice.{value_place, Twice, too_long, too_many, same_id}
use Rattle.bulks.proofs.Parts.{back, whole_parts, items_said, said_parts, header_itemless, no_items, item_itemless, items_many}
use Rattle.bulks.proofs.Items.{items_proper, header_proper, items_there, bulk_holds, rest}
use Rattle.bulks.proofs.Itself.{texts_both, ahead, behind}
use Rattle.bulks.proofs.Typed.{instrument, one_place}
use Rattle.bulks.proofs.Read.{met_items, met_both, bare, body_told, inside_told, items_told, Reads, bulk_reads}

-- other items, and other white space behind them, that may stand
pub lawful_items : {v : Version} (b : Bulk v) (o : Occ) (l : List (DocItem v)) (w : List ℕ) → Lawful (message many b) → Often o (length l) → Each (LedBy (Proper (in_item v))) l → White w
    → Lawful (message o (with_items b l w))
lawful_items b o l w law n pr h =
    let i = law.inside in
    let x = i.1.0 in
    record { before = law.before; inside = (i.0, ((x.0, (x.1.0, x.1.1, (n, pr, h))), tt), i.2); behind = law.behind }

-- Whichever it is: it is refused.
pub twice_refusal : {v : Version} {m : List ℕ} {i p : ℕ} {j : Judged} → Twice v m i p j → Refusal j
twice_refusal (too_long h) = record { number = 1; place = 0; is = refl }
twice_refusal {p = p} (too_many h e) = record { number = 12; place = p; is = refl }
twice_refusal {v} {m} {i} {p} (same_id h l) = record { number = 24; place = value_place TxId (alone v m p); is = refl }

-- too long
long_refused : (m : List ℕ) → most_bytes < length m → judged m ≡ refused 1 0
unfolding judged the_trace
long_refused m h = rw (lt-ltb most_bytes (length m) h)

-- ---- a list of entries, parted as what they say is
record Parted (es : List Entry) (a : List What) (w : What) : Type 0 where
  pub before : List Entry
  pub it : Entry
  pub after : List Entry
  pub is : es ≡ before ++ (it ∷ after)
  pub says : whats before ≡ a
  pub what : it.what ≡ w

parted : (es : List Entry) (a : List What) (w : What) (b : List What) → whats es ≡ a ++ (w ∷ b) → Parted es a w
parted [] [] w b e = never (let z = ap length e in omega arith)
parted [] (x ∷ a) w b e = never (let z = ap length e in omega arith)
parted (y ∷ es) [] w b e = record { before = []; it = y; after = es; is = refl; says = refl; what = (cc) }
parted (y ∷ es) (x ∷ a) w b e =
    let h : y.what ≡ x = cc in
    let t : whats es ≡ a ++ (w ∷ b) = cc in
    go h (parted es a w b t)
  where
    go : y.what ≡ x → Parted es a w → Parted (y ∷ es) (x ∷ a) w
    go h r = record { before = y ∷ r.before; it = r.it; after = r.after; is = ap (λ (l : List Entry). y ∷ l) r.is; says = rw (h, r.says); what = r.what }

-- where the first value of a field begins
abbrev first_place : Field → List Entry → ℕ
first_place f [] = 0
first_place f (e ∷ l) = place_in (of_field f e.what) e.place (first_place f l)

value_place_lem : (f : Field) (t : Trace) → value_place f t ≡ first_place f (flat t)
value_place_lem f (met e t) = ap (place_in (of_field f e.what) e.place) (value_place_lem f t)
value_place_lem f (up_to p) = refl
value_place_lem f (fault n q) = refl

none_before : (f : Field) (a b : List Entry) → values_at f (whats a) ≡ [] → first_place f (a ++ b) ≡ first_place f b
none_before f [] b e = refl
none_before f (x ∷ a) b e = go (of_field f x.what) e (none_before f a b)
  where
    go : (v : List (List ℕ)) → v ++ values_at f (whats a) ≡ [] → (values_at f (whats a) ≡ [] → first_place f (a ++ b) ≡ first_place f b) → place_in v x.place (first_place f (a ++ b)) ≡ first_place f b
    go [] e k = k e
    go (y ∷ v) e k = never (let z = ap length e in omega arith)

-- ---- what items say, one behind the other
said_both : (v : Version) (a b : List (DocItem v)) → items_said v (a ++ b) ≡ items_said v a ++ items_said v b
said_both v [] b = refl
said_both v (x ∷ a) b =
    let y = item_begins ∷ (said (in_item v) x.held ++ (item_ends ∷ [])) in
    ap (λ (l : List What). y ++ l) (said_both v a b) ∙ sym (append_assoc y (items_said v a) (items_said v b))

four : {A : Type 0} (a b c d : List A) → a ++ (b ++ (c ++ d)) ≡ ((a ++ b) ++ c) ++ d
four a b c d = simp append_assoc

twice_text : (f t w y v u s : List ℕ) → f ++ ((t ++ ((w ++ y) ++ ((v ++ y) ++ u))) ++ s) ≡ ((f ++ (t ++ w)) ++ y) ++ (v ++ (y ++ (u ++ s)))
twice_text f t w y v u s = simp append_assoc

-- ---- item x of an accepted bulk, and behind it the same item with white space w before it
module _ {v : Version} (b : Bulk v) (law : Lawful (message many b)) (n c : ℕ) (e : judged (whole (message many b)) ≡ accepted n c)
    (xs : List (DocItem v)) (x : DocItem v) (ys : List (DocItem v)) (is : b.items ≡ xs ++ (x ∷ ys)) (w : List ℕ) (white : White w) where
  abbrev P : DocItem v → Type 0
  P = LedBy (Proper (in_item v))

  abbrev twin : DocItem v
  twin = record { blank = w; held = x.held }

  -- the items up to the first one, and up to the second
  abbrev firsts : List (DocItem v)
  firsts = xs ++ (x ∷ [])

  abbrev both : List (DocItem v)
  both = firsts ++ (twin ∷ [])

  abbrev bulk : Bulk v
  bulk = with_items b (xs ++ (x ∷ twin ∷ ys)) b.close

  abbrev m : List ℕ
  m = whole (message many bulk)

  all-proper : Each P (xs ++ (x ∷ ys))
  all-proper = subst (Each P) is (items_proper b law)

  it-proper : Each P (x ∷ ys)
  it-proper = each_rest P xs (x ∷ ys) all-proper

  firsts-proper : Each P firsts
  firsts-proper = each_both P xs (x ∷ []) (each_first P xs (x ∷ ys) all-proper) (it-proper.0, tt)

  twin-proper : P twin
  twin-proper = (white, it-proper.0.1)

  bulk-lawful : Lawful (message many bulk)
  bulk-lawful =
      lawful_items b many (xs ++ (x ∷ twin ∷ ys)) b.close law (omega (arith, length-append xs (x ∷ twin ∷ ys)))
      (each_both P xs (x ∷ twin ∷ ys) (each_first P xs (x ∷ ys) all-proper) (it-proper.0, (twin-proper, it-proper.1))) law.inside.1.0.1.2.2

  -- ---- what is said up to the end of the first one keeps the rules
  abbrev H : List What
  H = said (in_header v) b.header.held

  abbrev Q : List What
  Q = H ++ items_said v xs

  abbrev S : List What
  S = said (in_item v) x.held

  abbrev up_to_first : List What
  up_to_first = Q ++ (item_begins ∷ (S ++ (item_ends ∷ [])))

  first_kept : Kept up_to_first
  first_kept =
      let one = item_begins ∷ (S ++ (item_ends ∷ [])) in
      let z : said (tree many v) (message many b).inside ≡ up_to_first ++ items_said v ys =
      said_parts b ∙ (ap (λ (l : List (DocItem v)). H ++ items_said v l) is ∙ (ap (λ (l : List What). H ++ l) (said_both v xs (x ∷ ys)) ∙ four H (items_said v xs) one (items_said v ys))) in
      kept_first up_to_first (items_said v ys) (rw z at (holds_kept (said (tree many v) (message many b).inside) n c (bulk_holds b law n c e)).0)

  firsts-said : H ++ items_said v firsts ≡ up_to_first
  firsts-said =
      let one = item_begins ∷ (S ++ (item_ends ∷ [])) in
      ap (λ (l : List What). H ++ l) (said_both v xs (x ∷ [])) ∙ (four H (items_said v xs) one [] ∙ append-nil up_to_first)

  first-items : items_in up_to_first ≡ suc (length xs)
  first-items =
      ap items_in (sym firsts-said)
      ∙ (items_append H (items_said v firsts)
      ∙ omega (arith, no_items (in_header v) (header_itemless v) b.header.held (header_proper b law).1, items_many v firsts firsts-proper, length-append xs (x ∷ [])))

  -- ---- what is met in the message
  abbrev start : ℕ
  start = length (front b) + length (texts (item_text v) firsts)

  -- the `<` of the second one
  abbrev place : ℕ
  place = start + length w

  abbrev left : List ℕ
  left = texts (item_text v) ys ++ (b.close ++ back b)

  both-there : rest bulk bulk-lawful ≡ texts (item_text v) both ++ left
  both-there =
      ap (λ (l : List (DocItem v)). texts (item_text v) l ++ (b.close ++ back b)) (shift xs)
      ∙ (ap (λ (t : List ℕ). t ++ (b.close ++ back b)) (texts_both v both ys) ∙ append_assoc (texts (item_text v) both) (texts (item_text v) ys) (b.close ++ back b))
    where
      shift : (a : List (DocItem v)) → a ++ (x ∷ twin ∷ ys) ≡ ((a ++ (x ∷ [])) ++ (twin ∷ [])) ++ ys
      shift [] = refl
      shift (y ∷ a) = ap (λ (l : List (DocItem v)). y ∷ l) (shift a)

  from-items : drop (length (front b)) m ≡ texts (item_text v) both ++ left
  from-items = items_there bulk bulk-lawful ∙ both-there

  at_first : drop (length (front b)) m ≡ texts (item_text v) firsts ++ (item_text v twin ++ left)
  at_first =
      from-items
      ∙ (ap (λ (t : List ℕ). t ++ left) (texts_both v firsts (twin ∷ [])) ∙ (append_assoc (texts (item_text v) firsts) (item_text v twin ++ []) left
      ∙ ap (λ (t : List ℕ). texts (item_text v) firsts ++ (t ++ left)) (append-nil (item_text v twin))))

  at_second : drop start m ≡ item_text v twin ++ left
  at_second = past m (texts (item_text v) firsts) (item_text v twin ++ left) (length (front b)) at_first

  module _ (short : length m ≤ most_bytes) where
    reads : Reads bulk both
    reads = bulk_reads bulk bulk-lawful short both (omega (arith, length-append firsts (twin ∷ []))) (each_both P firsts (twin ∷ []) firsts-proper (twin-proper, tt)) left both-there

    -- up to the first one's end
    abbrev E : List Entry
    E = reads.header ++ met_items v m (length (front b)) firsts

    e-says : whats E ≡ up_to_first
    e-says =
        whats_append reads.header (met_items v m (length (front b)) firsts)
        ∙ (ap (λ (l : List What). l ++ whats (met_items v m (length (front b)) firsts)) reads.says
        ∙ (ap (λ (l : List What). H ++ l) (items_told v m firsts firsts-proper (length (front b)) (item_text v twin ++ left) at_first) ∙ firsts-said))

    -- within the second one
    abbrev F : List Entry
    F = flat (inside v m place)

    f-says : whats F ≡ S
    f-says = inside_told v m twin twin-proper start left at_second

    abbrev last : ℕ
    last = start + length (item_text v twin)

    second-flat : flat (item_body v m place) ≡ (item_begins at place) ∷ (F ++ ((item_ends at last) ∷ []))
    second-flat = item_flat v m place last (body_told v m twin twin-proper start left at_second).whole

    abbrev tail : List Entry
    tail = ((item_ends at last) ∷ []) ++ reads.rest

    all-met : flat (the_trace m) ≡ E ++ ((item_begins at place) ∷ (F ++ tail))
    all-met =
        reads.is
        ∙ (ap (λ (l : List Entry). reads.header ++ (l ++ reads.rest)) (met_both v m (length (front b)) firsts (twin ∷ []))
        ∙ (regroup reads.header (met_items v m (length (front b)) firsts) (flat (item_body v m place)) reads.rest
        ∙ (ap (λ (l : List Entry). E ++ (l ++ reads.rest)) second-flat ∙ ap (λ (l : List Entry). E ++ ((item_begins at place) ∷ l)) (append_assoc F ((item_ends at last) ∷ []) reads.rest))))
      where
        regroup : (h a f r : List Entry) → h ++ ((a ++ (f ++ [])) ++ r) ≡ (h ++ a) ++ (f ++ r)
        regroup h a f r = simp (append_assoc, append-nil)

    judged-as : judged m ≡ decided (listed_all (flat (the_trace m)) [])
    judged-as = subst Told (profile_tree v) (λ d l s. judged_told d l s) (message many bulk) bulk-lawful short
      where
        Told : Shape → Type 0
        Told sh = (d : Message v sh) → Lawful d → length (whole d) ≤ most_bytes → judged (whole d) ≡ decided (listed_all (flat (the_trace (whole d))) [])

    -- item 10,001
    item-over : suc (length xs) ≡ most_items → judged m ≡ refused 12 place
    item-over k =
        judged-as
        ∙ ap decided (ap (λ (l : List Entry). listed_all l []) all-met
        ∙ listed_stops E (item_begins at place) (F ++ tail) 12 (rw e-says first_kept) (rw e-says (full_refused up_to_first (first-items ∙ k))))

    -- the second one, read alone, is what stands there
    second-alone : alone v m place ≡ item_body v m place
    second-alone =
        let t = text (in_item v) x.held ++ left in
        let d : drop place m ≡ plain_tag item_name ++ t = past m w (plain_tag item_name ++ t) start (bare v m twin start left at_second) in
        let s : skipped m place ≡ place = skip_to m place [] (plain_tag item_name ++ t) refl (plain_starts item_name t) d ∙ omega arith in
        as_alone v m place (ap (λ (q : ℕ). look item_tag (drop q m)) s ∙ (ap (look item_tag) d ∙ look_text (plain_tag item_name) t)) ∙ ap (item_body v m) s

    -- its TxId
    id_again : suc (length xs) < most_items → judged m ≡ refused 24 (value_place TxId (alone v m place))
    id_again k =
        let i = first_id S (omega (arith, (one_item v x.held it-proper.0.1).tx_id)) (item_references v x.held it-proper.0.1) in
        told i (parted F i.before (value i.kind i.field i.bytes) i.after (f-says ∙ i.is))
      where
        told : (i : FirstId S) → Parted F i.before (value i.kind i.field i.bytes) → judged m ≡ refused 24 (value_place TxId (alone v m place))
        told i f =
            let a = i.before in
            let z = value i.kind i.field i.bytes ∷ i.after in
            let kept : Kept (once Q a z) = rw i.is at first_kept in
            let front = E ++ ((item_begins at place) ∷ f.before) in
            let says : whats front ≡ again Q a z = whats_append E ((item_begins at place) ∷ f.before) ∙ rw (e-says, f.says, i.is) in
            let met : flat (the_trace m) ≡ front ++ (f.it ∷ (f.after ++ tail)) =
            all-met ∙ (ap (λ (l : List Entry). E ++ ((item_begins at place) ∷ (l ++ tail))) f.is ∙ regroup E ((item_begins at place) ∷ []) f.before f.it f.after tail) in
            let types : length (types_in H) ≡ 1 = one_place _ (instrument.header v) b.header.held (header_proper b law).1 in
            let fits : suc (items_in (once Q a z)) ≤ most_items = rw (← i.is) (omega (arith, k, first-items)) in
            let none : items_in a ≡ 0 = omega (arith, ap items_in i.is, items_append a z, no_items (in_item v) (item_itemless v) x.held it-proper.0.1) in
            let kept' = again_kept Q a z kept (omega (arith, types, ap length (types_append H (items_said v xs)), length-append (types_in H) (types_in (items_said v xs)))) fits none i.none in
            let stopped = listed_stops front f.it (f.after ++ tail) 24 (rw says kept') (rw (says, f.what) (twice_refused Q a i.after i.kind i.field i.bytes kept i.reference i.id)) in
            let at-it : value_place TxId (alone v m place) ≡ f.it.place =
            ap (value_place TxId) second-alone
            ∙ (value_place_lem TxId (item_body v m place)
            ∙ (ap (first_place TxId) (second-flat ∙ ap (λ (l : List Entry). (item_begins at place) ∷ (l ++ ((item_ends at last) ∷ []))) f.is)
            ∙ (ap (first_place TxId) (append_assoc f.before (f.it ∷ f.after) ((item_ends at last) ∷ []))
            ∙ (none_before TxId f.before (f.it ∷ (f.after ++ ((item_ends at last) ∷ []))) (ap (values_at TxId) f.says ∙ i.none) ∙ rw (f.what, i.id))))) in
            judged-as ∙ (ap decided (ap (λ (l : List Entry). listed_all l []) met ∙ stopped) ∙ ap (refused 24) (sym at-it))
          where
            regroup : (e p b : List Entry) (y : Entry) (a t : List Entry) → e ++ (p ++ ((b ++ (y ∷ a)) ++ t)) ≡ (e ++ (p ++ b)) ++ (y ∷ (a ++ t))
            regroup e p b y a t = simp append_assoc

  told : Twice v m (length xs) place (judged m)
  told = go (lt_or_ge most_bytes (length m))
    where
      T : Judged → Type 0
      T = Twice v m (length xs) place

      within : length m ≤ most_bytes → (suc (length xs) < most_items) ⊎ (most_items ≤ suc (length xs)) → T (judged m)
      within h (inl k) = subst T (sym (id_again h k)) (same_id h k)
      within h (inr k) =
          let z : suc (length xs) ≡ most_items = omega (arith, k, first-items, first_kept.few) in
          subst T (sym (item-over h z)) (too_many h z)

      go : (most_bytes < length m) ⊎ (length m ≤ most_bytes) → T (judged m)
      go (inl h) = subst T (sym (long_refused m h)) (too_long h)
      go (inr h) = within h (lt_or_ge (suc (length xs)) most_items)

  -- the text of the message, around the item
  twice-whole : m ≡ (ahead b xs x ys ++ bare_text v x) ++ (w ++ (bare_text v x ++ behind b xs x ys))
  twice-whole =
      whole_parts many bulk
      ∙ (ap (λ (t : List ℕ). front b ++ (t ++ (b.close ++ back b))) (texts_both v xs (x ∷ twin ∷ ys))
      ∙ twice_text (front b) (texts (item_text v) xs) x.blank (bare_text v x) w (texts (item_text v) ys) (b.close ++ back b))

  place_is : place ≡ length (ahead b xs x ys ++ bare_text v x) + length w
  place_is =
      let t = texts (item_text v) xs in
      omega (
        arith,
        ap length (texts_both v xs (x ∷ [])),
        length-append t (item_text v x ++ []),
        ap length (append-nil (item_text v x)),
        length-append x.blank (bare_text v x),
        length-append (ahead b xs x ys) (bare_text v x),
        length-append (front b) (t ++ x.blank),
        length-append t x.blank,
      )

  pub doubled : let t = (ahead b xs x ys ++ bare_text v x) ++ (w ++ (bare_text v x ++ behind b xs x ys)) in
      Twice v t (length xs) (length (ahead b xs x ys ++ bare_text v x) + length w) (judged t)
  doubled = rw (← twice-whole, ← place_is) told
