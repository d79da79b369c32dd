-- The items of the list stand one behind the other in the message.
use mathlib.Core.Path.{◌≡◌, refl, ap, ◌∙◌}
use mathlib.Core.List.{List, [], ◌∷◌, ◌++◌, append-nil, append_assoc}
use Prim.Native.Nat.{ℕ, zero, suc, ◌+◌, ◌≤◌}
use Prim.Native.String.{String}
use native.Mathlib.Omega.{arith}
use lib.ListN.{length, drop, length-drop}
use Rattle.tags.specs.declared.Look.{Look}
use Rattle.tags.specs.declared.Look.TheVariants.{Whole as Lies, Cut, Other}
use Rattle.tags.specs.Tags.{skipped, look, on_look, exactly, end_tag, plain_tag}
use Rattle.tags.proofs.Looks.{text_fits}
use Rattle.tags.proofs.White.{skip_twice}
use Rattle.profile.specs.declared.Version.{Version}
use Rattle.profile.specs.Tree.{once, many, more, Shape, end, group}
use Rattle.profile.specs.Profile.{bulk_name, header_name, item_name, in_header, in_item, profile}
use Rattle.reading.specs.Trace.{What, item_begins, item_ends, there, absent, value, Entry, ◌at◌, Trace, up_to, fault, and_then, closed, group_body, turn, again, trace}
use Rattle.reading.specs.Noted.{Ended}
use Rattle.reading.specs.Judged.{whats}
use Rattle.reading.specs.Items.{Item, or_end, up_to_end, end_or, next_end, item_or, items_of}
use Rattle.reading.proofs.Flat.{flat, Goes, goes_through, Whole, goes_whole, split, one_end}
use Rattle.items.specs.Alone.{item_tag, item_body, alone, begin_or, first_in}
use Rattle.items.specs.Chain.{LiesAt, AllLie, Chained, none, next}
use Rattle.items.proofs.Parts.{Turned, enters, passes, turned}
use Rattle.items.proofs.Inner.{item_lies, header_lies}
use Rattle.items.proofs.Stands.{then_none, inside, item_flat, item_stands}

-- ---- the items of a list, behind entries that begin and end none
record Quiet (w : What) : Type 0 where
  pub item : (x : Item) (l : List Item) → item_or w x l ≡ l
  pub begin : (p q : ℕ) → begin_or w p q ≡ q
  pub end : (p q : ℕ) → end_or w p q ≡ q
  pub up : (l : List What) → or_end w l ≡ w ∷ l

module _ (m : List ℕ) where
  quiet : (w : What) (p : ℕ) → LiesAt m w p → Quiet w
  quiet item_begins p h = absurd h
  quiet item_ends p h = absurd h
  quiet (there n) p h = record { item = λ x l. refl; begin = λ p q. refl; end = λ p q. refl; up = λ l. refl }
  quiet (absent n) p h = record { item = λ x l. refl; begin = λ p q. refl; end = λ p q. refl; up = λ l. refl }
  quiet (value k f v) p h = record { item = λ x l. refl; begin = λ p q. refl; end = λ p q. refl; up = λ l. refl }

  items-skip : (vs rest : List Entry) → AllLie m vs → items_of (vs ++ rest) ≡ items_of rest
  items-skip [] rest h = refl
  items-skip (e ∷ l) rest h =
      (quiet e.what e.place h.0).item (record { from = e.place; to = next_end (l ++ rest); holds = up_to_end (l ++ rest) }) (items_of (l ++ rest))
      ∙ items-skip l rest h.1

  first-skip : (vs rest : List Entry) → AllLie m vs → first_in (vs ++ rest) ≡ first_in rest
  first-skip [] rest h = refl
  first-skip (e ∷ l) rest h = (quiet e.what e.place h.0).begin e.place (first_in (l ++ rest)) ∙ first-skip l rest h.1

  next_end_lem : (vs rest : List Entry) (q : ℕ) → AllLie m vs → next_end (vs ++ ((item_ends at q) ∷ rest)) ≡ q
  next_end_lem [] rest q h = refl
  next_end_lem (e ∷ l) rest q h = (quiet e.what e.place h.0).end e.place (next_end (l ++ ((item_ends at q) ∷ rest))) ∙ next_end_lem l rest q h.1

  up-to-end : (vs rest : List Entry) (q : ℕ) → AllLie m vs → up_to_end (vs ++ ((item_ends at q) ∷ rest)) ≡ whats vs
  up-to-end [] rest q h = refl
  up-to-end (e ∷ l) rest q h =
      (quiet e.what e.place h.0).up (up_to_end (l ++ ((item_ends at q) ∷ rest))) ∙ ap (λ (x : List What). e.what ∷ x) (up-to-end l rest q h.1)

  item-first : (a q : ℕ) (vs rest : List Entry) → AllLie m vs
      → items_of ((item_begins at a) ∷ (vs ++ ((item_ends at q) ∷ rest))) ≡ record { from = a; to = q; holds = whats vs } ∷ items_of rest
  item-first a q vs rest h = rw (next_end_lem vs rest q h, up-to-end vs rest q h, items-skip vs ((item_ends at q) ∷ rest) h)

-- ---- a part that goes on, and what follows it
record Entered (body rest : ℕ → Trace) (t : Trace) (a : ℕ) (es : List Entry) (r : Ended (List Entry)) : Type 0 where
  pub mid : Ended (List Entry)
  pub first : Goes (body a) es mid
  pub then : Goes (rest mid.at) mid.notes r
  pub entries : flat t ≡ flat (body a) ++ flat (rest mid.at)

entered : (body rest : ℕ → Trace) (t : Trace) (a : ℕ) (es : List Entry) (r : Ended (List Entry)) → t ≡ and_then (body a) rest → Goes t es r → Entered body rest t a es r
entered body rest t a es r z e =
    let g : Goes (and_then (body a) rest) es r = rw z at e in
    let h = goes_through (body a) rest es r g in
    let s = split (body a) rest r.at (goes_whole (and_then (body a) rest) es r g) in
    let y : s.mid ≡ h.mid.at = one_end (body a) s.mid h.mid.at s.first (goes_whole (body a) es h.mid h.first) in
    record { mid = h.mid; first = h.first; then = h.then; entries = ap flat z ∙ (s.entries ∙ rw y) }

-- ---- white space before an item is passed over, wherever it is read from
module _ (v : Version) (m : List ℕ) where
  chain-skipped : {p : ℕ} {l : List Item} → Chained v m p l → Chained v m (skipped m p) l
  unfolding alone
  chain-skipped none = none
  chain-skipped {p} (next {x = x} s c) =
      let y : skipped m (skipped m p) ≡ skipped m p = skip_twice m p in
      next {x = x} (record { from = y ∙ s.from; inner = s.inner; alone = rw y s.alone; holds = s.holds; lie = s.lie; within = s.within }) c

module _ (m : List ℕ) where
  closed-flat : (n : String) (p : ℕ) → flat (closed n m p) ≡ []
  unfolding closed
  closed-flat n p = go (look (exactly (end_tag n)) (drop p m))
    where
      go : (l : Look) → flat (on_look l (up_to (p + length (end_tag n))) (fault 3 (length m)) (fault 4 p)) ≡ []
      go Lies = refl
      go Cut = refl
      go Other = refl

  -- a group that comes once: what it holds, and what follows it
  held : (n : String) (inner rest : ℕ → Trace) (p : ℕ) (es : List Entry) (r : Ended (List Entry))
      → Goes (turn once n (exactly (plain_tag n)) m (group_body once n inner) rest rest p) es r
      → Entered inner rest (turn once n (exactly (plain_tag n)) m (group_body once n inner) rest rest p) (skipped m p + length (plain_tag n)) es r
  held n inner rest p es r e = go (turned m once n (exactly (plain_tag n)) (group_body once n inner) rest rest p r.at (goes_whole t es r e))
    where
      a : ℕ
      a = skipped m p + length (plain_tag n)

      t : Trace
      t = turn once n (exactly (plain_tag n)) m (group_body once n inner) rest rest p

      go : Turned m once n (exactly (plain_tag n)) (group_body once n inner) rest rest p r.at → Entered inner rest t a es r
      go (passes z w) = absurd w
      go (enters x z w) = entered inner rest t a es r (z ∙ ap (λ (t : Trace). and_then t rest) (then_none (inner a))) e

  module _ (v : Version) where
    abbrev group_end : ℕ → Trace
    group_end = trace (end bulk_name) m

    abbrev more_items : ℕ → ℕ → Trace
    more_items i = again i item_name item_tag m (item_body v m) group_end

    -- an item, and what follows it
    after : (p : ℕ) → look item_tag (drop (skipped m p) m) ≡ Lies → (rest : ℕ → Trace) (t : Trace) (es : List Entry) (r : Ended (List Entry))
        → t ≡ and_then (item_body v m (skipped m p)) rest → Goes t es r
        → ((q : ℕ) (es : List Entry) → Goes (rest q) es r → Chained v m q (items_of (flat (rest q)))) → Chained v m p (items_of (flat t))
    after p w rest t es r z e k =
        let a = skipped m p in
        let o = entered (item_body v m) rest t a es r z e in
        let q = o.mid.at in
        let x : Whole (item_body v m a) q = goes_whole (item_body v m a) es o.mid o.first in
        let l = flat (inside v m a) in
        let y : items_of (flat t) ≡ record { from = a; to = q; holds = whats l } ∷ items_of (flat (rest q)) =
        ap items_of (o.entries ∙ (ap (λ (l : List Entry). l ++ flat (rest q)) (item_flat v m a q x) ∙ ap (λ (l : List Entry). (item_begins at a) ∷ l) (append_assoc l ((item_ends at q) ∷ []) (flat (rest q)))))
        ∙ item-first m a q l (flat (rest q)) (item_lies m v (a + length (plain_tag item_name))) in
        rw y (next (item_stands v m p w es o.mid o.first) (k q o.mid.notes o.then))

    again-chained : (i p : ℕ) (es : List Entry) (r : Ended (List Entry)) → Goes (more_items i p) es r → Chained v m p (items_of (flat (more_items i p)))
    again-chained zero p es r e = rw (closed-flat bulk_name (skipped m p)) none
    again-chained (suc i) p es r e =
        go (turned m more item_name item_tag (item_body v m) (more_items i) group_end p r.at (goes_whole (more_items (suc i) p) es r e)) (λ q fs f. again-chained i q fs r f)
      where
        go : Turned m more item_name item_tag (item_body v m) (more_items i) group_end p r.at → ((q : ℕ) (es : List Entry) → Goes (more_items i q) es r → Chained v m q (items_of (flat (more_items i q))))
            → Chained v m p (items_of (flat (more_items (suc i) p)))
        go (enters x z w) k = after p x (more_items i) (more_items (suc i) p) es r z e k
        go (passes z w) k = rw (z, closed-flat bulk_name (skipped m (skipped m p))) none

    -- items from a place on: so from the first one on
    pub record From (t : Trace) (p : ℕ) : Type 0 where
      pub here : Chained v m p (items_of (flat t))
      pub within : first_in (flat t) ≤ length m
      pub chain : Chained v m (first_in (flat t)) (items_of (flat t))

    abbrev some_items : Shape
    some_items = group many item_name (in_item v) (end bulk_name)

    items-chained : (p : ℕ) (es : List Entry) (r : Ended (List Entry)) → Goes (trace some_items m p) es r → From (trace some_items m p) p
    items-chained p es r e = go (turned m many item_name item_tag (item_body v m) (more_items (length m)) group_end p r.at (goes_whole (trace some_items m p) es r e))
      where
        a : ℕ
        a = skipped m p

        go : Turned m many item_name item_tag (item_body v m) (more_items (length m)) group_end p r.at → From (trace some_items m p) p
        go (passes z w) = absurd w
        go (enters x z w) =
            let c = after p x (more_items (length m)) (trace some_items m p) es r z e (λ q fs f. again-chained (length m) q fs r f) in
            let f : first_in (flat (trace some_items m p)) ≡ a = ap (λ (t : Trace). first_in (flat t)) z in
            record { here = c; within = omega (arith, f, text_fits (plain_tag item_name) (drop a m) x, length-drop a m); chain = rw f (chain-skipped v m c) }

    -- behind the header, whose content begins at a
    pub record Behind (t : Trace) (a : ℕ) : Type 0 where
      pub headed : ℕ
      pub header : Whole (trace (in_header v) m a) headed
      pub items : From t headed

    abbrev content : Shape
    content = group once header_name (in_header v) some_items

    content-chained : (p : ℕ) (es : List Entry) (r : Ended (List Entry)) → Goes (trace content m p) es r → Behind (trace content m p) (skipped m p + length (plain_tag header_name))
    content-chained p es r e =
        let o = held header_name (trace (in_header v) m) (trace some_items m) p es r e in
        let a = skipped m p + length (plain_tag header_name) in
        let l = flat (trace (in_header v) m a) in
        let rest = flat (trace some_items m o.mid.at) in
        let h = header_lies m v a in
        let f = items-chained o.mid.at o.mid.notes r o.then in
        record {
          headed = o.mid.at;
          header = goes_whole (trace (in_header v) m a) es o.mid o.first;
          items = record {
            here = rw (o.entries, items-skip m l rest h) f.here;
            within = rw (o.entries, first-skip m l rest h) f.within;
            chain = rw (o.entries, items-skip m l rest h, first-skip m l rest h) f.chain;
          };
        }

    pub profile_chained : (p : ℕ) (es : List Entry) (r : Ended (List Entry)) → Goes (trace (profile v) m p) es r
        → Behind (trace (profile v) m p) (skipped m (skipped m p + length (plain_tag bulk_name)) + length (plain_tag header_name))
    unfolding profile in_header in_item
    profile_chained p es r e =
        let o = held bulk_name (trace content m) (trace (end "Document") m) p es r e in
        let a = skipped m p + length (plain_tag bulk_name) in
        let z : flat (trace (profile v) m p) ≡ flat (trace content m a) = o.entries ∙ (rw (closed-flat "Document" (skipped m o.mid.at)) (append-nil (flat (trace content m a)))) in
        let f = content-chained a es o.mid o.first in
        record { headed = f.headed; header = f.header; items = record { here = rw z f.items.here; within = rw z f.items.within; chain = rw z f.items.chain } }
