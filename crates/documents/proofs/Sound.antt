-- What is read through is a document's text, and what is met is what the document says.
use mathlib.Core.Path.{◌≡◌, refl, sym, ap, ◌∙◌}
use mathlib.Core.Bool.{Bool, true, false}
use mathlib.Core.List.{List, [], ◌∷◌, ◌++◌, append_assoc}
use Prim.Native.Nat.{ℕ, zero, suc, ◌+◌, ◌-◌}
use Prim.Native.String.{String}
use native.Mathlib.Omega.{arith}
use lib.Dec.{ltb}
use lib.ListN.{length, drop, length-append, take-append-drop}
use lib.Seq.{drop-drop, length-take-le}
use Rattle.text.specs.Truth.{pick, lead}
use Rattle.text.specs.Quoted.{bytes}
use Rattle.text.specs.Classes.{capital}
use Rattle.text.proofs.Scan.{lead_every, lead_le}
use Rattle.tags.specs.declared.Look.{Look}
use Rattle.tags.specs.declared.Look.TheVariants.{Whole as Lies, Cut, Other}
use Rattle.tags.specs.Tags.{white, skipped, look, on_look, exactly, currency, end_tag, plain_tag, amount_tag, start_tag, currency_place, in_euro}
use Rattle.tags.specs.Values.{in_value, value_at, behind_value}
use Rattle.tags.proofs.Looks.{exactly_length, whole_text, look_append, and_then as look_then}
use Rattle.profile.specs.declared.Kind.{Kind}
use Rattle.profile.specs.declared.Field.{Field}
use Rattle.profile.specs.Kinds.{is_amount}
use Rattle.profile.specs.Tree.{Occ, once, optional, many, more, Shape, end, leaf, group}
use Rattle.reading.specs.Trace.{What, value, ◌at◌, Trace, met, up_to, fault, and_then, begins, ends, priced, closed, valued, leaf_body, group_body, missing, turn, again, follow, child, trace}
use Rattle.reading.specs.Judged.{whats}
use Rattle.reading.proofs.Lists.{whats_append}
use Rattle.reading.proofs.Flat.{never, flat, Whole, split}
use Rattle.documents.specs.Document.{Led, Doc, opening, led_text, texts, text, Often, Each, Tagless, LedBy, Proper}
use Rattle.documents.specs.Said.{one, each, none, said}
use Rattle.documents.proofs.Texts.{space, space_text, space_white}
use Rattle.documents.proofs.Rows.{none_missing}
use Rattle.documents.proofs.Complete.{around, trace_skips}

-- ---- an amount's start tag whose capitals are EUR
both_whole : (a b : Look) → look_then a b ≡ Lies → (a ≡ Lies) × (b ≡ Lies)
both_whole Lies b e = (refl, e)
both_whole Cut b e = never (cc)
both_whole Other b e = never (cc)

euro_text : (t s : List ℕ) → look (exactly t ++ currency) s ≡ Lies → look (exactly (bytes "EUR")) (drop (length t) s) ≡ Lies
    → s ≡ (t ++ bytes "EUR\">") ++ drop (length (t ++ bytes "EUR\">")) s
euro_text t s w e =
    whole_text t s a.0
    ∙ ap (λ (x : List ℕ). t ++ x) (whole_text (bytes "EUR") u e ∙ ap (λ (x : List ℕ). bytes "EUR" ++ x) (whole_text (bytes "\">") (drop 3 u) b.1))
    ∙ ap (λ (x : List ℕ). t ++ (bytes "EUR\">" ++ x)) behind
    ∙ sym (append_assoc t (bytes "EUR\">") (drop (length (t ++ bytes "EUR\">")) s))
  where
    u : List ℕ
    u = drop (length t) s

    a : (look (exactly t) s ≡ Lies) × (look currency (drop (length (exactly t)) s) ≡ Lies)
    a = both_whole (look (exactly t) s) (look currency (drop (length (exactly t)) s)) (sym (look_append (exactly t) currency s) ∙ w)

    b : (look (capital ∷ capital ∷ capital ∷ []) u ≡ Lies) × (look (exactly (bytes "\">")) (drop 3 u) ≡ Lies)
    b = both_whole (look (capital ∷ capital ∷ capital ∷ []) u) (look (exactly (bytes "\">")) (drop 3 u))
        (sym (look_append (capital ∷ capital ∷ capital ∷ []) (exactly (bytes "\">")) u) ∙ ap (λ (n : ℕ). look currency (drop n s)) (sym (exactly_length t)) ∙ a.1)

    behind : drop 2 (drop 3 u) ≡ drop (length (t ++ bytes "EUR\">")) s
    behind = drop-drop 2 3 u ∙ drop-drop 5 (length t) s ∙ ap (λ (n : ℕ). drop n s) (sym (length-append t (bytes "EUR\">")))

module _ (m : List ℕ) where
  -- a text that stands at a place, and what stands behind it
  pub here : (t : List ℕ) (p : ℕ) → look (exactly t) (drop p m) ≡ Lies → drop p m ≡ t ++ drop (p + length t) m
  here t p e = whole_text t (drop p m) e ∙ ap (λ (x : List ℕ). t ++ x) (drop-drop (length t) p m)

  -- a text that stands from a place to another, and what the trace of it tells
  pub record Part (t : Trace) (x : List ℕ) (ws : List What) (p q : ℕ) : Type 0 where
    pub stands : drop p m ≡ x ++ drop q m
    pub to : q ≡ p + length x
    pub says : whats (flat t) ≡ ws

  -- one behind the other
  part_then : (t : Trace) (g : ℕ → Trace) (x y : List ℕ) (a b : List What) (p r q : ℕ) → flat (and_then t g) ≡ flat t ++ flat (g r) → Part t x a p r → Part (g r) y b r q
      → Part (and_then t g) (x ++ y) (a ++ b) p q
  part_then t g x y a b p r q e h k =
      record {
        stands = h.stands ∙ ap (λ (z : List ℕ). x ++ z) k.stands ∙ sym (append_assoc x y (drop q m));
        to = omega (arith, h.to, k.to, length-append x y);
        says = ap whats e ∙ whats_append (flat t) (flat (g r)) ∙ rw (h.says, k.says);
      }

  -- a row, and what comes after it
  row-part : (t r : Trace) (x y : List ℕ) (a b c : List What) (p mid q : ℕ) → Part t x (a ++ (b ++ whats (flat r))) p mid → Part r y c mid q → Part t (x ++ y) (a ++ (b ++ c)) p q
  row-part t r x y a b c p mid q h k =
      record {
        stands = h.stands ∙ ap (λ (z : List ℕ). x ++ z) k.stands ∙ sym (append_assoc x y (drop q m));
        to = omega (arith, h.to, k.to, length-append x y);
        says = h.says ∙ rw k.says;
      }

  -- ---- white space
  space-part : (p : ℕ) → Part (up_to (skipped m p)) (space m p) [] p (skipped m p)
  space-part p =
      record {
        stands = space_text m p;
        to = ap (λ (n : ℕ). p + n) (sym (length-take-le (lead white (drop p m)) (drop p m) (lead_le white (drop p m))));
        says = refl;
      }

  -- ---- an end tag that was found
  pub closed_found : (n : String) (p q : ℕ) → Whole (closed n m p) q → Part (closed n m p) (end_tag n) [] p q
  unfolding closed
  closed_found n p q = go (look (exactly (end_tag n)) (drop p m)) refl
    where
      go : (l : Look) → look (exactly (end_tag n)) (drop p m) ≡ l → Whole (on_look l (up_to (p + length (end_tag n))) (fault 3 (length m)) (fault 4 p)) q
          → Part (on_look l (up_to (p + length (end_tag n))) (fault 3 (length m)) (fault 4 p)) (end_tag n) [] p q
      go Lies e w = record { stands = here (end_tag n) p e ∙ ap (λ (x : ℕ). end_tag n ++ drop x m) w; to = sym w; says = refl }
      go Cut e w = absurd w
      go Other e w = absurd w

  -- ---- a value that was found
  record Value (n : String) (k : Kind) (f : Field) (p q : ℕ) : Type 0 where
    pub bytes : List ℕ
    pub plain : Tagless bytes
    pub part : Part (valued n k f m p) (bytes ++ end_tag n) (value k f bytes ∷ []) p q

  valued_found : (n : String) (k : Kind) (f : Field) (p q : ℕ) → Whole (valued n k f m p) q → Value n k f p q
  unfolding valued
  valued_found n k f p q w = record { bytes = v; plain = lead_every in_value (drop p m); part = go (ltb (behind_value m p) (length m)) w }
    where
      v : List ℕ
      v = value_at m p

      wide : length v ≡ lead in_value (drop p m)
      wide = length-take-le (lead in_value (drop p m)) (drop p m) (lead_le in_value (drop p m))

      go : (b : Bool) → Whole (pick b (met (value k f v at p) (closed n m (behind_value m p))) (fault 3 (length m))) q
          → Part (pick b (met (value k f v at p) (closed n m (behind_value m p))) (fault 3 (length m))) (v ++ end_tag n) (value k f v ∷ []) p q
      go false w = absurd w
      go true w =
          let c = closed_found n (behind_value m p) q w in
          record {
            stands =
                sym (take-append-drop (lead in_value (drop p m)) (drop p m))
                ∙ ap (λ (x : List ℕ). v ++ x) (drop-drop (lead in_value (drop p m)) p m ∙ c.stands)
                ∙ sym (append_assoc v (end_tag n) (drop q m));
            to = omega (arith, c.to, wide, length-append v (end_tag n));
            says = ap (λ (l : List What). value k f v ∷ l) c.says;
          }

  -- ---- a value's start tag, in euro where it is an amount's
  opening-found : (k : Kind) (n : String) (p q : ℕ) → look (start_tag (is_amount k) n) (drop p m) ≡ Lies → Whole (priced (is_amount k) m (p + length (start_tag (is_amount k) n))) q
      → Part (priced (is_amount k) m (p + length (start_tag (is_amount k) n))) (opening k n) [] p q
  unfolding in_euro currency_place
  opening-found k n p q = go (is_amount k)
    where
      t : List ℕ
      t = amount_tag n

      r : ℕ
      r = p + length (exactly t ++ currency)

      euro : look (exactly t ++ currency) (drop p m) ≡ Lies → (l : Look) → look (exactly (bytes "EUR")) (drop (r - 5) m) ≡ l
          → Whole (pick (on_look l true false false) (up_to r) (fault 6 (r - 5))) q → Part (pick (on_look l true false false) (up_to r) (fault 6 (r - 5))) (t ++ bytes "EUR\">") [] p q
      euro w Cut e z = absurd z
      euro w Other e z = absurd z
      euro w Lies e z =
          let a : r - 5 ≡ p + length t = omega (arith, length-append (exactly t) currency, exactly_length t) in
          let b : p + length (t ++ bytes "EUR\">") ≡ r = omega (arith, length-append (exactly t) currency, exactly_length t, length-append t (bytes "EUR\">")) in
          record {
            stands =
                euro_text t (drop p m) w (ap (look (exactly (bytes "EUR"))) (drop-drop (length t) p m ∙ ap (λ (x : ℕ). drop x m) (sym a)) ∙ e)
                ∙ ap (λ (x : List ℕ). (t ++ bytes "EUR\">") ++ x) (drop-drop (length (t ++ bytes "EUR\">")) p m ∙ ap (λ (x : ℕ). drop x m) (b ∙ z));
            to = sym (b ∙ z);
            says = refl;
          }

      go : (b : Bool) → look (start_tag b n) (drop p m) ≡ Lies → Whole (priced b m (p + length (start_tag b n))) q
          → Part (priced b m (p + length (start_tag b n))) (pick b (amount_tag n ++ bytes "EUR\">") (plain_tag n)) [] p q
      go true w z = euro w (look (exactly (bytes "EUR")) (drop (r - 5) m)) refl z
      go false w z =
          let e : p + length (plain_tag n) ≡ q = ap (λ (x : ℕ). p + x) (sym (exactly_length (plain_tag n))) ∙ z in
          record { stands = here (plain_tag n) p w ∙ ap (λ (x : ℕ). plain_tag n ++ drop x m) e; to = sym e; says = refl }

  -- ---- an element's beginning and end, around what it holds
  pub inside_found : (o : Occ) (n : String) (p q : ℕ) (t : Trace) → Whole (begins o n p (and_then t (ends o))) q → Whole t q
  inside_found once n p q t w = let s = split t (ends once) q w in rw s.then at s.first
  inside_found optional n p q t w = let s = split t (ends optional) q w in rw s.then at s.first
  inside_found many n p q t w = let s = split t (ends many) q w in rw s.then at s.first
  inside_found more n p q t w = let s = split t (ends more) q w in rw s.then at s.first

  around-part : {A : Type 0} (o : Occ) (n : String) (g : A → List What) (e : Led A) (x : List ℕ) (p r q : ℕ) (t : Trace) → Whole t q → Part t x (g e.held) p q
      → Part (begins o n r (and_then t (ends o))) x (one o n g e) p q
  around-part o n g e x p r q t w h =
      record { stands = h.stands; to = h.to; says = (around o n g e r q t (record { whole = w; says = h.says })).says }

  -- ---- a child as often as it was met, and what was met after it
  module _ {A : Type 0} (o : Occ) (n : String) (tag : List (ℕ → Bool)) (tb : List ℕ) (f : A → List ℕ) (g : A → List What) (P : A → Type 0) (body rest : ℕ → Trace) where
    -- an element's content, from its `<` to behind its end tag
    record Element (p q : ℕ) : Type 0 where
      pub held : A
      pub proper : P held
      pub part : (w : List ℕ) → Part (body p) (tb ++ f held) (one o n g (record { blank = w; held = held })) p q

    record Elements (N : ℕ → Type 0) (o' : Occ) (t : Trace) (p q : ℕ) : Type 0 where
      pub all : List (Led A)
      pub often : N (length all)
      pub proper : Each (LedBy P) all
      pub mid : ℕ
      pub others : Whole (rest mid) q
      pub part : Part t (texts (led_text tb f) all) (none o' n all ++ (each o n g all ++ whats (flat (rest mid)))) p mid

    -- none, and what follows
    none_found : (N : ℕ → Type 0) (o' : Occ) (t : Trace) (p q : ℕ) → N 0 → Whole (rest p) q → whats (flat t) ≡ none {A = Led A} o' n [] ++ whats (flat (rest p)) → Elements N o' t p q
    none_found N o' t p q h w e = record { all = []; often = h; proper = tt; mid = p; others = w; part = record { stands = refl; to = omega arith; says = e } }

    -- one more, behind white space
    one_found : (N : ℕ → Type 0) (o' : Occ) (next : ℕ → Trace) (p r q : ℕ) → flat (and_then (body (skipped m p)) next) ≡ flat (body (skipped m p)) ++ flat (next r)
        → Element (skipped m p) r → Elements (λ i. N (suc i)) more (next r) r q → Elements N o' (and_then (body (skipped m p)) next) p q
    one_found N o' next p r q z x l =
        let e : Led A = record { blank = space m p; held = x.held } in
        let a = part_then (up_to (skipped m p)) body (space m p) (tb ++ f x.held) [] (one o n g e) p (skipped m p) r refl (space-part p) (x.part (space m p)) in
        let b = part_then (body (skipped m p)) next (led_text tb f e) (texts (led_text tb f) l.all) (one o n g e) (each o n g l.all ++ whats (flat (rest l.mid))) p r l.mid z a l.part in
        record {
          all = e ∷ l.all;
          often = l.often;
          proper = ((space_white m p, x.proper), l.proper);
          mid = l.mid;
          others = l.others;
          part = record {
            stands = b.stands;
            to = b.to;
            says = b.says ∙ sym (append_assoc (one o n g e) (each o n g l.all) (whats (flat (rest l.mid)))) ∙ rw (none_missing o' n e l.all);
          };
        }

    module _ (body-found : (p q : ℕ) → look tag (drop p m) ≡ Lies → Whole (body p) q → Element p q) (rest-skips : (p : ℕ) → rest (skipped m p) ≡ rest p) where
      turn-found : (o' : Occ) (N : ℕ → Type 0) (next : ℕ → Trace) → (Often o' 0 → N 0) → ((p q : ℕ) → Whole (next p) q → Elements (λ i. N (suc i)) more (next p) p q)
          → (p q : ℕ) → Whole (turn o' n tag m body next rest p) q → Elements N o' (turn o' n tag m body next rest p) p q
      turn-found o' N next z k p q = go (look tag (drop (skipped m p) m)) refl
        where
          passed : (o' : Occ) → (Often o' 0 → N 0) → Whole (missing o' n (skipped m p) (rest (skipped m p))) q → Elements N o' (missing o' n (skipped m p) (rest (skipped m p))) p q
          passed once z w = absurd w
          passed optional z w = rw (rest-skips p) (none_found N optional (missing optional n (skipped m p) (rest p)) p q (z (omega arith)) (rw (rest-skips p) at w) refl)
          passed many z w = absurd w
          passed more z w = rw (rest-skips p) (none_found N more (rest p) p q (z (omega arith)) (rw (rest-skips p) at w) refl)

          go : (l : Look) → look tag (drop (skipped m p) m) ≡ l
              → Whole (on_look l (and_then (body (skipped m p)) next) (fault 3 (length m)) (missing o' n (skipped m p) (rest (skipped m p)))) q
              → Elements N o' (on_look l (and_then (body (skipped m p)) next) (fault 3 (length m)) (missing o' n (skipped m p) (rest (skipped m p)))) p q
          go Lies e w =
              let s = split (body (skipped m p)) next q w in
              one_found N o' next p s.mid q s.entries (body-found (skipped m p) s.mid e s.first) (k s.mid q s.then)
          go Cut e w = absurd w
          go Other e w = passed o' z w

      again-found : (i : ℕ) (N : ℕ → Type 0) → ((j : ℕ) → N j) → (p q : ℕ) → Whole (again i n tag m body rest p) q → Elements N more (again i n tag m body rest p) p q
      again-found zero N a p q w = none_found N more (rest p) p q (a 0) w refl
      again-found (suc i) N a p q w = turn-found more N (again i n tag m body rest) (λ h. a 0) (again-found i (λ j. N (suc j)) (λ j. a (suc j))) p q w

      follow-found : (i : ℕ) (o' : Occ) (p q : ℕ) → Whole (follow o' i n tag m body rest p) q → Elements (λ j. Often o' (suc j)) more (follow o' i n tag m body rest p) p q
      follow-found i once p q w = none_found (λ j. Often once (suc j)) more (rest p) p q refl w refl
      follow-found i optional p q w = none_found (λ j. Often optional (suc j)) more (rest p) p q (omega arith) w refl
      follow-found i many p q w = again-found i (λ j. Often many (suc j)) (λ j. omega arith) p q w
      follow-found i more p q w = again-found i (λ j. Often more (suc j)) (λ j. omega arith) p q w

      child-found : (p q : ℕ) → Whole (child o n tag m body rest p) q → Elements (Often o) o (child o n tag m body rest p) p q
      child-found p q w = turn-found o (Often o) (follow o (length m) n tag m body rest) (λ h. h) (follow-found (length m) o) p q w

  -- ---- a document that stands from a place to another, and says what is met there
  pub record Found (sh : Shape) (p q : ℕ) : Type 0 where
    pub doc : Doc sh
    pub proper : Proper sh doc
    pub part : Part (trace sh m p) (text sh doc) (said sh doc) p q

  leaf-found : (o : Occ) (n : String) (k : Kind) (f : Field) (rest : ℕ → Trace) (p q : ℕ) → look (start_tag (is_amount k) n) (drop p m) ≡ Lies → Whole (leaf_body o n k f m p) q
      → Element o n (start_tag (is_amount k) n) (opening k n) (λ v. v ++ end_tag n) (λ v. value k f v ∷ []) Tagless (leaf_body o n k f m) rest p q
  leaf-found o n k f rest p q e w =
      let t = priced (is_amount k) m (p + length (start_tag (is_amount k) n)) in
      let i = inside_found o n p q (and_then t (valued n k f m)) w in
      let s = split t (valued n k f m) q i in
      let v = valued_found n k f s.mid q s.then in
      record {
        held = v.bytes;
        proper = v.plain;
        part = λ u.
            around-part o n (λ v. value k f v ∷ []) (record { blank = u; held = v.bytes }) (opening k n ++ (v.bytes ++ end_tag n)) p p q (and_then t (valued n k f m)) i
            (part_then t (valued n k f m) (opening k n) (v.bytes ++ end_tag n) [] (value k f v.bytes ∷ []) p s.mid q s.entries (opening-found k n p s.mid e s.first) v.part);
      }

  group-found : (o : Occ) (n : String) (inner : Shape) (rest : ℕ → Trace) → ((p q : ℕ) → Whole (trace inner m p) q → Found inner p q)
      → (p q : ℕ) → look (exactly (plain_tag n)) (drop p m) ≡ Lies → Whole (group_body o n (trace inner m) p) q
      → Element o n (exactly (plain_tag n)) (plain_tag n) (text inner) (said inner) (Proper inner) (group_body o n (trace inner m)) rest p q
  group-found o n inner rest k p q e w =
      let r = p + length (plain_tag n) in
      let i = inside_found o n p q (trace inner m r) w in
      let d = k r q i in
      record {
        held = d.doc;
        proper = d.proper;
        part = λ u.
            around-part o n (said inner) (record { blank = u; held = d.doc }) (plain_tag n ++ text inner d.doc) p p q (trace inner m r) i
            (part_then (up_to r) (trace inner m) (plain_tag n) (text inner d.doc) [] (said inner d.doc) p r q refl (record { stands = here (plain_tag n) p e; to = refl; says = refl }) d.part);
      }

  -- Whatever is read through is a document's text, and what is met is what the document says.
  pub trace_found : (sh : Shape) (p q : ℕ) → Whole (trace sh m p) q → Found sh p q
  trace_found (end n) p q w =
      record {
        doc = space m p;
        proper = space_white m p;
        part = part_then (up_to (skipped m p)) (closed n m) (space m p) (end_tag n) [] [] p (skipped m p) q refl (space-part p) (closed_found n (skipped m p) q w);
      }
  trace_found (leaf o n k f rest) p q w =
      let l = child-found o n (start_tag (is_amount k) n) (opening k n) (λ v. v ++ end_tag n) (λ v. value k f v ∷ []) Tagless (leaf_body o n k f m) (trace rest m)
      (leaf-found o n k f (trace rest m)) (trace_skips m rest) p q w in
      let r = trace_found rest l.mid q l.others in
      record {
        doc = record { all = l.all; others = r.doc };
        proper = (l.often, l.proper, r.proper);
        part = row-part (trace (leaf o n k f rest) m p) (trace rest m l.mid) (texts (led_text (opening k n) (λ v. v ++ end_tag n)) l.all) (text rest r.doc)
            (none o n l.all) (each o n (λ v. value k f v ∷ []) l.all) (said rest r.doc) p l.mid q l.part r.part;
      }
  trace_found (group o n inner rest) p q w =
      let l = child-found o n (exactly (plain_tag n)) (plain_tag n) (text inner) (said inner) (Proper inner) (group_body o n (trace inner m)) (trace rest m)
      (group-found o n inner (trace rest m) (trace_found inner)) (trace_skips m rest) p q w in
      let r = trace_found rest l.mid q l.others in
      record {
        doc = record { all = l.all; others = r.doc };
        proper = (l.often, l.proper, r.proper);
        part = row-part (trace (group o n inner rest) m p) (trace rest m l.mid) (texts (led_text (plain_tag n) (text inner)) l.all) (text rest r.doc)
            (none o n l.all) (each o n (said inner) l.all) (said rest r.doc) p l.mid q l.part r.part;
      }
