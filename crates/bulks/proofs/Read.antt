-- What is met in a bulk's message: its header, and then its items one by one, each from its own place.
use mathlib.Core.Path.{◌≡◌, refl, sym, ap, subst, ◌∙◌}
use mathlib.Core.List.{List, [], ◌∷◌, ◌++◌, append_assoc}
use Prim.Native.Nat.{ℕ, zero, suc, ◌+◌, ◌≤◌}
use Prim.Native.String.{String}
use native.Mathlib.Omega.{arith}
use borrow.Author.Tests.{le-ltb}
use lib.ListN.{length, drop, length-append, length-drop}
use Rattle.text.proofs.Truths.{never}
use Rattle.tags.specs.declared.Look.TheVariants.{Whole as Lies}
use Rattle.tags.specs.Tags.{skipped, look, exactly, plain_tag}
use Rattle.tags.proofs.Looks.{look_text}
use Rattle.profile.specs.declared.Version.{Version}
use Rattle.profile.specs.Limits.{most_bytes}
use Rattle.profile.specs.Tree.{Occ, once, many, more, Shape, end, group}
use Rattle.profile.specs.Profile.{bulk_name, header_name, item_name, in_header, in_item, profile}
use Rattle.reading.specs.Trace.{What, item_begins, item_ends, Entry, Trace, met, up_to, fault, and_then, group_body, turn, again, trace, opened, behind_all, message as the_trace}
use Rattle.reading.specs.Judged.{whats}
use Rattle.reading.proofs.Lists.{whats_append}
use Rattle.reading.proofs.Flat.{flat, Whole}
use Rattle.documents.specs.Document.{texts, text, Each, White, LedBy, Proper}
use Rattle.documents.specs.Said.{said}
use Rattle.documents.specs.Message.{Message, head, whole, Lawful}
use Rattle.documents.proofs.Sure.{item_sure}
use Rattle.documents.proofs.Texts.{past, plain_starts, skip_to}
use Rattle.documents.proofs.Told.{Told, told_as}
use Rattle.documents.proofs.Complete.{group_told, trace_tells}
use Rattle.documents.proofs.Messages.{opens}
use Rattle.items.specs.Alone.{item_tag, item_body}
use Rattle.items.proofs.Stands.{then_none}
use Rattle.bulks.specs.Bulk.{tree, profile_tree, DocItem, Bulk, message, item_text, front, bare_text}
use Rattle.bulks.proofs.Parts.{items_said}
use Rattle.bulks.proofs.Items.{rest, after_head, after_bulk, in_head, hd, at_bulk, at_header, header_told, header_proper, items_there}

-- ---- one part, and what follows it
then_flat : (t : Trace) (g : ℕ → Trace) (q : ℕ) → Whole t q → flat (and_then t g) ≡ flat t ++ flat (g q)
then_flat (met e t) g q w = ap (λ (l : List Entry). e ∷ l) (then_flat t g q w)
then_flat (up_to p) g q w = rw w
then_flat (fault n p) g q w = absurd w

-- entries, and some more
pub record More (l es : List Entry) : Type 0 where
  pub rest : List Entry
  pub is : l ≡ es ++ rest

then_more : (t : Trace) (g : ℕ → Trace) → More (flat (and_then t g)) (flat t)
then_more (met e t) g = let r = then_more t g in record { rest = r.rest; is = ap (λ (l : List Entry). e ∷ l) r.is }
then_more (up_to p) g = record { rest = flat (g p); is = refl }
then_more (fault n p) g = record { rest = []; is = refl }

more_more : {l es fs : List Entry} → More l es → More es fs → More l fs
more_more {l} {es} {fs} a b = record { rest = b.rest ++ a.rest; is = a.is ∙ rw b.is (append_assoc fs b.rest a.rest) }

-- ---- a group whose start tag lies there, behind white space
module _ (m : List ℕ) where
  enters : (o : Occ) (n : String) (body next rest : ℕ → Trace) (p : ℕ) (w s : List ℕ) → White w → drop p m ≡ w ++ (plain_tag n ++ s)
      → turn o n (exactly (plain_tag n)) m body next rest p ≡ and_then (body (p + length w)) next
  enters o n body next rest p w s h e =
      let a : skipped m p ≡ p + length w = skip_to m p w (plain_tag n ++ s) h (plain_starts n s) e in
      let l : look (exactly (plain_tag n)) (drop (p + length w) m) ≡ Lies = ap (look (exactly (plain_tag n))) (past m w (plain_tag n ++ s) p e) ∙ look_text (plain_tag n) s in
      rw (a, l)

  -- one that stands once
  held : (n : String) (inner next : ℕ → Trace) (p : ℕ) (w s : List ℕ) → White w → drop p m ≡ w ++ (plain_tag n ++ s)
      → turn once n (exactly (plain_tag n)) m (group_body once n inner) next next p ≡ and_then (inner (p + length w + length (plain_tag n))) next
  held n inner next p w s h e =
      enters once n (group_body once n inner) next next p w s h e ∙ ap (λ (t : Trace). and_then t next) (then_none (inner (p + length w + length (plain_tag n))))

-- ---- items
module _ (v : Version) (m : List ℕ) where
  -- what is met of some items that stand from a place on
  abbrev pub met_items : ℕ → List (DocItem v) → List Entry
  met_items p [] = []
  met_items p (x ∷ l) = flat (item_body v m (p + length x.blank)) ++ met_items (p + length (item_text v x)) l

  pub met_both : (p : ℕ) (a b : List (DocItem v)) → met_items p (a ++ b) ≡ met_items p a ++ met_items (p + length (texts (item_text v) a)) b
  met_both p [] b = let z : p ≡ p + 0 = omega arith in ap (λ (q : ℕ). met_items q b) z
  met_both p (x ∷ a) b =
      let z : p + length (item_text v x) + length (texts (item_text v) a) ≡ p + length (texts (item_text v) (x ∷ a)) = omega (arith, length-append (item_text v x) (texts (item_text v) a)) in
      let body = flat (item_body v m (p + length x.blank)) in
      ap (λ (l : List Entry). body ++ l) (met_both (p + length (item_text v x)) a b ∙ ap (λ (q : ℕ). met_items (p + length (item_text v x)) a ++ met_items q b) z)
      ∙ sym (append_assoc body (met_items (p + length (item_text v x)) a) (met_items (p + length (texts (item_text v) (x ∷ a))) b))

  pub bare : (x : DocItem v) (p : ℕ) (s : List ℕ) → drop p m ≡ item_text v x ++ s → drop p m ≡ x.blank ++ (plain_tag item_name ++ (text (in_item v) x.held ++ s))
  bare x p s h = h ∙ simp append_assoc

  -- an item's text is read to its end, and tells what the item says
  pub body_told : (x : DocItem v) → LedBy (Proper (in_item v)) x → (p : ℕ) (s : List ℕ) → drop p m ≡ item_text v x ++ s
      → Told (item_body v m (p + length x.blank)) (p + length (item_text v x)) (item_begins ∷ (said (in_item v) x.held ++ (item_ends ∷ [])))
  body_told x pr p s h =
      told_as (omega (arith, length-append x.blank (bare_text v x))) refl
      (group_told m many item_name (trace (in_item v) m) (text (in_item v)) (said (in_item v)) x (trace_tells m (in_item v) (item_sure v) x.held pr.1) (p + length x.blank) s
      (past m x.blank (bare_text v x ++ s) p (h ∙ append_assoc x.blank (bare_text v x) s)))

  -- and within its tags
  pub inside_told : (x : DocItem v) → LedBy (Proper (in_item v)) x → (p : ℕ) (s : List ℕ) → drop p m ≡ item_text v x ++ s
      → whats (flat (trace (in_item v) m (p + length x.blank + length (plain_tag item_name)))) ≡ said (in_item v) x.held
  inside_told x pr p s h =
      let t = text (in_item v) x.held in
      (trace_tells m (in_item v) (item_sure v) x.held pr.1 (p + length x.blank + length (plain_tag item_name)) s
      (past m (plain_tag item_name) (t ++ s) (p + length x.blank) (past m x.blank (plain_tag item_name ++ (t ++ s)) p (bare x p s h)))).says

  pub items_told : (l : List (DocItem v)) → Each (LedBy (Proper (in_item v))) l → (p : ℕ) (s : List ℕ) → drop p m ≡ texts (item_text v) l ++ s → whats (met_items p l) ≡ items_said v l
  items_told [] pr p s h = refl
  items_told (x ∷ l) pr p s h =
      let g : drop p m ≡ item_text v x ++ (texts (item_text v) l ++ s) = h ∙ append_assoc (item_text v x) (texts (item_text v) l) s in
      let q = p + length (item_text v x) in
      let this = (body_told x pr.0 p (texts (item_text v) l ++ s) g).says in
      let others = items_told l pr.1 q s (past m (item_text v x) (texts (item_text v) l ++ s) p g) in
      whats_append (flat (item_body v m (p + length x.blank))) (met_items q l)
      ∙ (ap (λ (y : List What). y ++ whats (met_items q l)) this ∙ ap (λ (y : List What). (item_begins ∷ (said (in_item v) x.held ++ (item_ends ∷ []))) ++ y) others)

  -- one, and what follows it
  one-met : (o : Occ) (next rest : ℕ → Trace) (x : DocItem v) → LedBy (Proper (in_item v)) x → (p : ℕ) (s : List ℕ) → drop p m ≡ item_text v x ++ s
      → flat (turn o item_name item_tag m (item_body v m) next rest p) ≡ flat (item_body v m (p + length x.blank)) ++ flat (next (p + length (item_text v x)))
  one-met o next rest x pr p s h =
      ap flat (enters m o item_name (item_body v m) next rest p x.blank (text (in_item v) x.held ++ s) pr.0 (bare x p s h))
      ∙ then_flat (item_body v m (p + length x.blank)) next (p + length (item_text v x)) (body_told x pr p s h).whole

  again-met : (rest : ℕ → Trace) (l : List (DocItem v)) → Each (LedBy (Proper (in_item v))) l → (i : ℕ) → length l ≤ i → (p : ℕ) (s : List ℕ) → drop p m ≡ texts (item_text v) l ++ s
      → More (flat (again i item_name item_tag m (item_body v m) rest p)) (met_items p l)
  again-met rest [] pr i n p s h = record { rest = flat (again i item_name item_tag m (item_body v m) rest p); is = refl }
  again-met rest (x ∷ l) pr zero n p s h = never (omega arith)
  again-met rest (x ∷ l) pr (suc i) n p s h =
      let g : drop p m ≡ item_text v x ++ (texts (item_text v) l ++ s) = h ∙ append_assoc (item_text v x) (texts (item_text v) l) s in
      let q = p + length (item_text v x) in
      let r = again-met rest l pr.1 i (omega arith) q s (past m (item_text v x) (texts (item_text v) l ++ s) p g) in
      let body = flat (item_body v m (p + length x.blank)) in
      record {
        rest = r.rest;
        is =
            one-met more (again i item_name item_tag m (item_body v m) rest) rest x pr.0 p (texts (item_text v) l ++ s) g
            ∙ (ap (λ (y : List Entry). body ++ y) r.is ∙ sym (append_assoc body (met_items q l) r.rest));
      }

  some_bytes : (l : List (DocItem v)) → length l ≤ length (texts (item_text v) l)
  some_bytes [] = omega arith
  some_bytes (x ∷ l) =
      omega (
        arith,
        some_bytes l,
        length-append (item_text v x) (texts (item_text v) l),
        length-append x.blank (bare_text v x),
        length-append (plain_tag item_name) (text (in_item v) x.held),
      )

  abbrev some_items : Shape
  some_items = group many item_name (in_item v) (end bulk_name)

  items-met : (x : DocItem v) (l : List (DocItem v)) → Each (LedBy (Proper (in_item v))) (x ∷ l) → (p : ℕ) (s : List ℕ) → drop p m ≡ texts (item_text v) (x ∷ l) ++ s
      → More (flat (trace some_items m p)) (met_items p (x ∷ l))
  items-met x l pr p s h =
      let g : drop p m ≡ item_text v x ++ (texts (item_text v) l ++ s) = h ∙ append_assoc (item_text v x) (texts (item_text v) l) s in
      let q = p + length (item_text v x) in
      let few : length l ≤ length m =
      omega (arith, some_bytes l, ap length g, length-drop p m, length-append (item_text v x) (texts (item_text v) l ++ s), length-append (texts (item_text v) l) s) in
      let r = again-met (trace (end bulk_name) m) l pr.1 (length m) few q s (past m (item_text v x) (texts (item_text v) l ++ s) p g) in
      let body = flat (item_body v m (p + length x.blank)) in
      record {
        rest = r.rest;
        is =
            one-met many (again (length m) item_name item_tag m (item_body v m) (trace (end bulk_name) m)) (trace (end bulk_name) m) x pr.0 p (texts (item_text v) l ++ s) g
            ∙ (ap (λ (y : List Entry). body ++ y) r.is ∙ sym (append_assoc body (met_items q l) r.rest));
      }

apart : (a b c d e : List Entry) → ((a ++ (b ++ c)) ++ d) ++ e ≡ a ++ (b ++ (c ++ (d ++ e)))
apart a b c d e = simp append_assoc

-- ---- a bulk's message, up to some of its items
pub record Reads {v : Version} (b : Bulk v) (l : List (DocItem v)) : Type 0 where
  pub header : List Entry
  pub says : whats header ≡ said (in_header v) b.header.held
  pub rest : List Entry
  pub is : flat (the_trace (whole (message many b))) ≡ header ++ (met_items v (whole (message many b)) (length (front b)) l ++ rest)

module _ {v : Version} (b : Bulk v) (law : Lawful (message many b)) (short : length (whole (message many b)) ≤ most_bytes) where
  abbrev m : List ℕ
  m = whole (message many b)

  -- the trace of the message, of either name of its tree
  abbrev Root : Shape → Type 0
  Root sh = the_trace m ≡ and_then (trace sh m (hd b law)) (behind_all m)

  root-trace : Root (tree many v)
  unfolding the_trace
  root-trace = subst Root (profile_tree v) (rw (le-ltb most_bytes (length m) short, opens (message many b) law (text (tree many v) (message many b).inside ++ b.behind)))

  module _ (x : DocItem v) (l : List (DocItem v)) (pr : Each (LedBy (Proper (in_item v))) (x ∷ l)) (s : List ℕ) (is : rest b law ≡ texts (item_text v) (x ∷ l) ++ s) where
    first_reads : Reads b (x ∷ l)
    first_reads =
        let content = group once header_name (in_header v) (some_items v m) in
        let one = held m bulk_name (trace content m) (trace (end "Document") m) (hd b law) b.blank (after_bulk b law) law.inside.1.0.0 (at_bulk b law) in
        let two =
        held m header_name (trace (in_header v) m) (trace (some_items v m) m) (hd b law + length b.blank + length (plain_tag bulk_name)) b.header.blank (after_head b law)
        (header_proper b law).0 (at_header b law) in
        let told = header_told b law in
        let head = flat (trace (in_header v) m (in_head b law)) in
        let items = items-met v m x l pr (length (front b)) s (items_there b law ∙ is) in
        let a = then_more (trace (tree many v) m (hd b law)) (behind_all m) in
        let c = then_more (trace content m (hd b law + length b.blank + length (plain_tag bulk_name))) (trace (end "Document") m) in
        let d : flat (trace content m (hd b law + length b.blank + length (plain_tag bulk_name))) ≡ head ++ flat (trace (some_items v m) m (length (front b))) =
        ap flat two ∙ then_flat (trace (in_header v) m (in_head b law)) (trace (some_items v m) m) (length (front b)) told.whole in
        record {
          header = head;
          says = told.says;
          rest = items.rest ++ (c.rest ++ a.rest);
          is =
              ap flat root-trace
              ∙ (a.is ∙ (ap (λ (y : List Entry). y ++ a.rest) (ap flat one ∙ (c.is ∙ ap (λ (y : List Entry). y ++ c.rest) (d ∙ ap (λ (y : List Entry). head ++ y) items.is)))
              ∙ apart head (met_items v m (length (front b)) (x ∷ l)) items.rest c.rest a.rest));
        }

  pub bulk_reads : (l : List (DocItem v)) → 1 ≤ length l → Each (LedBy (Proper (in_item v))) l → (s : List ℕ) → rest b law ≡ texts (item_text v) l ++ s → Reads b l
  bulk_reads [] n pr s is = never (omega arith)
  bulk_reads (x ∷ l) n pr s is = first_reads x l pr s is
