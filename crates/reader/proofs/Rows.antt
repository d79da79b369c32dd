-- A row of the table, as the code reads it: what it tells of the shape that is due there, and of its element.
use mathlib.Core.Path.{◌≡◌, refl, sym, ap, ◌∙◌}
use mathlib.Core.Bool.{Bool}
use mathlib.Core.List.{List}
use Prim.Native.Nat.{ℕ, ◌+◌, ◌≤◌}
use Prim.Native.String.{String}
use native.Mathlib.Omega.{arith}
use lib.ListN.{length, drop}
use Rattle.tags.specs.declared.Look.TheVariants.{Whole}
use Rattle.tags.specs.Tags.{skipped, look, plain_tag, start_tag}
use Rattle.tags.specs.Values.{behind_value}
use Rattle.tags.proofs.Looks.{exactly_length}
use Rattle.profile.specs.declared.Kind.{Kind}
use Rattle.profile.specs.declared.Field.{Field}
use Rattle.profile.specs.declared.Version.{Version}
use Rattle.profile.specs.Kinds.{is_amount}
use Rattle.profile.specs.Tree.{Occ, once, optional, many, more, Shape, end, leaf, group}
use Rattle.profile.specs.Profile.{is_type}
use Rattle.reading.specs.Trace.{Trace, up_to, and_then, begins, ends, priced, valued, leaf_body, group_body, trace}
use Rattle.reading.specs.Noted.{Reading, on, stop, onward, Ended}
use Rattle.reading.proofs.Flat.{noted_then}
use Rattle.table.specs.declared.What.TheVariants.{End, Value}
use Rattle.table.specs.declared.Row.{Row}
use Rattle.table.specs.Table.{tags, table, row_in, occ_of, mark_name, amount_due, width, opens_by, closes_by, due, Element}
use Rattle.table.proofs.Tied.{Tied, NoValue, value_no_end, group_no_end, group_no_value, same_value}
use Rattle.notes.specs.declared.Notes.{Notes}
use Rattle.notes.specs.Notes.{in_notes}
use Rattle.notes.specs.Steps.{reads}
use Rattle.engine.specs.Engine.{closed_by, valued_by, or_else, placed}
use Rattle.engine.proofs.Steps.{closed_by_lem}
use Rattle.engine.proofs.Elements.{enter_fits, reads_begins}
use Rattle.engine.proofs.Placed.{then_placed, begins_placed, ends_placed, priced_placed}
use Rattle.reader.specs.Reader.{entered, element_in}
use Rattle.reader.proofs.Turns.{from, Tells, deep, deep_in}

abbrev Found : Type 0
Found = Reading (Ended Notes)

module _ (v : Version) (k : ℕ) (r : Row) where
  -- a row of no end is an element's
  pub tells : (sh : Shape) → Tied v k sh r → (r.what ≡ End → ⊥) → Tells v k sh r
  tells (end n) t h = absurd (h t.what)
  tells (leaf o n kd f rest) t h = record { element = tt; occ = t.occ; name = t.name; start = t.start; width = t.width; later = t.later; next = t.next }
  tells (group o n inner rest) t h =
      record { element = tt; occ = t.occ; name = t.name; start = t.start; width = t.width ∙ sym (exactly_length (plain_tag n)); later = t.later; next = t.next }

  -- ---- its end tag
  module _ (names : List ℕ) (lent : names ≡ tags v) where
    pub ended : (m : List ℕ) (i : ℕ) (seen : Bool) (p : ℕ) (sh : Shape) → Tied v k sh r → r.what ≡ End → closed_by (closes_by names r) m (skipped m p) ≡ from m i seen sh p
    ended m i seen p (end n) t z = closed_by_lem m n (closes_by names r) (skipped m p) (rw lent t.close)
    ended m i seen p (leaf o n kd f rest) t z = absurd (value_no_end kd f (sym t.what ∙ z))
    ended m i seen p (group o n inner rest) t z = absurd (group_no_end (sym t.what ∙ z))

  -- ---- its element: past the start tag, then what it holds, then its end, of which nothing is noted
  module _ (m : List ℕ) (p : ℕ) (n : Notes) where
    abbrev In : Found
    In = reads (entered (occ_of r.occ) (mark_name r.typed) (amount_due r.what) (width r) m p) n

    ends-nothing : (o : Occ) (t : Trace) (n : Notes) → reads (and_then t (ends o)) n ≡ reads t n
    ends-nothing o t n = noted_then in_notes t (ends o) n ∙ go o (reads t n)
      where
        go : (o : Occ) (x : Found) → onward x (λ r. reads (ends o r.at) r.notes) ≡ x
        go once (on s) = refl
        go optional (on s) = refl
        go many (on s) = refl
        go more (on s) = refl
        go o (stop i q) = refl

    onward-twice : (x : Found) (f : Notes → Found) (g : Ended Notes → Found) → onward (onward x (λ s. f s.notes)) g ≡ onward x (λ s. onward (f s.notes) g)
    onward-twice (on s) f g = refl
    onward-twice (stop i q) f g = refl

    body_reads : (o : Occ) (s a : String) → is_type s ≡ is_type a → (first : Trace) (then : ℕ → Trace)
        → reads (begins o s p (and_then (and_then first then) (ends o))) n ≡ onward (reads (begins o a p first) n) (λ u. reads (then u.at) u.notes)
    body_reads o s a e first then =
        reads_begins o s a e p (and_then (and_then first then) (ends o)) n
        ∙ (alike (reads (begins o a p (up_to p)) n)
        ∙ (sym (onward-twice (reads (begins o a p (up_to p)) n) (reads first) (λ u. reads (then u.at) u.notes))
        ∙ ap (λ (x : Found). onward x (λ u. reads (then u.at) u.notes)) (sym (reads_begins o a a refl p first n))))
      where
        alike : (x : Found) → onward x (λ s. reads (and_then (and_then first then) (ends o)) s.notes) ≡ onward x (λ s. onward (reads first s.notes) (λ u. reads (then u.at) u.notes))
        alike (on s) = ends-nothing o (and_then first then) s.notes ∙ noted_then in_notes first then s.notes
        alike (stop i q) = refl

    value-by : (o : Occ) (a : String) (kd : Kind) (f : Field) (rest : Shape) → Tied v k (leaf o a kd f rest) r → (q : ℕ)
        → valued a kd f m q ≡ valued_by (closes_by (tags v) r) kd f m q
    unfolding valued valued_by
    value-by o a kd f rest t q = rw (closed_by_lem m a (closes_by (tags v) r) (behind_value m q) t.close)

    leaf-reads : (o : Occ) (a : String) (kd : Kind) (f : Field) (rest : Shape) → Tied v k (leaf o a kd f rest) r
        → reads (leaf_body o a kd f m p) n ≡ onward In (λ u. reads (valued_by (closes_by (tags v) r) kd f m u.at) u.notes)
    leaf-reads o a kd f rest t =
        body_reads o a (mark_name r.typed) (sym t.name) (priced (is_amount kd) m (p + length (start_tag (is_amount kd) a))) (valued a kd f m)
        ∙ rw (t.width, t.amount, t.occ) (alike (reads (entered o (mark_name r.typed) (is_amount kd) (length (start_tag (is_amount kd) a)) m p) n))
      where
        alike : (x : Found) → onward x (λ u. reads (valued a kd f m u.at) u.notes) ≡ onward x (λ u. reads (valued_by (closes_by (tags v) r) kd f m u.at) u.notes)
        alike (on s) = ap (λ (t : Trace). reads t s.notes) (value-by o a kd f rest t s.at)
        alike (stop i q) = refl

    group_reads : (o : Occ) (a : String) (inner rest : Shape) → Tied v k (group o a inner rest) r → reads (group_body o a (trace inner m) p) n ≡ onward In (λ u. reads (trace (due v (k + 1)) m u.at) u.notes)
    group_reads o a inner rest t =
        body_reads o a (mark_name r.typed) (sym t.name) (up_to (p + length (plain_tag a))) (trace inner m)
        ∙ rw (t.first, t.width, t.amount, t.occ)

    -- ---- and where the TxIds begin that stand in it
    module _ (l : List ℕ) where
      body-placed : (o : Occ) (s a : String) → is_type s ≡ is_type a → (first : Trace) (then : ℕ → Trace) → ((u : Notes) → placed first u l ≡ l)
          → placed (begins o s p (and_then (and_then first then) (ends o))) n l ≡ or_else (reads (begins o a p first) n) (λ u. placed (then u.at) u.notes l) l
      body-placed o s a e first then h =
          begins_placed o s a e p (and_then (and_then first then) (ends o)) n l
          ∙ (alike (reads (begins o a p (up_to p)) n) ∙ ap (λ (x : Found). or_else x (λ u. placed (then u.at) u.notes l) l) (sym (reads_begins o a a refl p first n)))
        where
          alike : (x : Found) → or_else x (λ s. placed (and_then (and_then first then) (ends o)) s.notes l) l
              ≡ or_else (onward x (λ s. reads first s.notes)) (λ u. placed (then u.at) u.notes l) l
          alike (on s) = ends_placed o (and_then first then) s.notes l ∙ (then_placed first then s.notes l ∙ rw (h s.notes))
          alike (stop i q) = refl

      leaf-placed : (o : Occ) (a : String) (kd : Kind) (f : Field) (rest : Shape) → Tied v k (leaf o a kd f rest) r
          → placed (leaf_body o a kd f m p) n l ≡ or_else In (λ u. placed (valued_by (closes_by (tags v) r) kd f m u.at) u.notes l) l
      leaf-placed o a kd f rest t =
          body-placed o a (mark_name r.typed) (sym t.name) (priced (is_amount kd) m (p + length (start_tag (is_amount kd) a))) (valued a kd f m)
          (λ u. priced_placed m (is_amount kd) (p + length (start_tag (is_amount kd) a)) u l)
          ∙ rw (t.width, t.amount, t.occ) (alike (reads (entered o (mark_name r.typed) (is_amount kd) (length (start_tag (is_amount kd) a)) m p) n))
        where
          alike : (x : Found) → or_else x (λ u. placed (valued a kd f m u.at) u.notes l) l
              ≡ or_else x (λ u. placed (valued_by (closes_by (tags v) r) kd f m u.at) u.notes l) l
          alike (on s) = ap (λ (t : Trace). placed t s.notes l) (value-by o a kd f rest t s.at)
          alike (stop i q) = refl

      group-placed : (o : Occ) (a : String) (inner rest : Shape) → Tied v k (group o a inner rest) r
          → placed (group_body o a (trace inner m) p) n l ≡ or_else In (λ u. placed (trace (due v (k + 1)) m u.at) u.notes l) l
      group-placed o a inner rest t =
          body-placed o a (mark_name r.typed) (sym t.name) (up_to (p + length (plain_tag a))) (trace inner m) (λ u. refl)
          ∙ rw (t.first, t.width, t.amount, t.occ)

      pub element_stops_placed : (sh : Shape) → Tied v k sh r → Element sh → (i q : ℕ) → stop i q ≡ In → l ≡ placed (element_in sh m p) n l
      element_stops_placed (end a) t x i q c = absurd x
      element_stops_placed (leaf o a kd f rest) t x i q c = sym (leaf-placed o a kd f rest t ∙ rw (← c))
      element_stops_placed (group o a inner rest) t x i q c = sym (group-placed o a inner rest t ∙ rw (← c))

      module _ (u : Ended Notes) (c : on u ≡ In) where
        pub element_group_placed : (sh : Shape) → Tied v k sh r → Element sh → NoValue r → placed (trace (due v (k + 1)) m u.at) u.notes l ≡ placed (element_in sh m p) n l
        element_group_placed (end a) t x z = absurd x
        element_group_placed (leaf o a kd f rest) t x z = absurd (z kd f t.what)
        element_group_placed (group o a inner rest) t x z = sym (group-placed o a inner rest t ∙ rw (← c))

        pub element_value_placed : (names : List ℕ) → names ≡ tags v → (c′ : Kind) (d : Field) → r.what ≡ Value c′ d → (sh : Shape) → Tied v k sh r → Element sh
            → placed (valued_by (closes_by names r) c′ d m u.at) u.notes l ≡ placed (element_in sh m p) n l
        element_value_placed names lent c′ d z (end a) t x = absurd x
        element_value_placed names lent c′ d z (leaf o a kd f rest) t x =
            let w = same_value c′ kd d f (sym z ∙ t.what) in
            rw (lent, w.0, w.1) (sym (leaf-placed o a kd f rest t ∙ rw (← c)))
        element_value_placed names lent c′ d z (group o a inner rest) t x = absurd (group_no_value c′ d (sym t.what ∙ z))

    pub element_stops : (sh : Shape) → Tied v k sh r → Element sh → (i q : ℕ) → stop i q ≡ In → stop i q ≡ reads (element_in sh m p) n
    element_stops (end a) t x i q c = absurd x
    element_stops (leaf o a kd f rest) t x i q c = sym (leaf-reads o a kd f rest t ∙ rw (← c))
    element_stops (group o a inner rest) t x i q c = sym (group_reads o a inner rest t ∙ rw (← c))

    module _ (u : Ended Notes) (c : on u ≡ In) where
      pub element_group : (sh : Shape) → Tied v k sh r → Element sh → NoValue r → reads (trace (due v (k + 1)) m u.at) u.notes ≡ reads (element_in sh m p) n
      element_group (end a) t x z = absurd x
      element_group (leaf o a kd f rest) t x z = absurd (z kd f t.what)
      element_group (group o a inner rest) t x z = sym (group_reads o a inner rest t ∙ rw (← c))

      pub element_value : (names : List ℕ) → names ≡ tags v → (c′ : Kind) (d : Field) → r.what ≡ Value c′ d → (sh : Shape) → Tied v k sh r → Element sh
          → reads (valued_by (closes_by names r) c′ d m u.at) u.notes ≡ reads (element_in sh m p) n
      element_value names lent c′ d z (end a) t x = absurd x
      element_value names lent c′ d z (leaf o a kd f rest) t x =
          let w = same_value c′ kd d f (sym z ∙ t.what) in
          rw (lent, w.0, w.1) (sym (leaf-reads o a kd f rest t ∙ rw (← c)))
      element_value names lent c′ d z (group o a inner rest) t x = absurd (group_no_value c′ d (sym t.what ∙ z))

  -- the group within it is one less deep
  pub inner_deep : (sh : Shape) → Tied v k sh r → Element sh → NoValue r → deep (due v (k + 1)) ≡ deep_in sh
  inner_deep (end n) t e z = absurd e
  inner_deep (leaf o n kd f rest) t e z = absurd (z kd f t.what)
  inner_deep (group o n inner rest) t e z = ap deep t.first

-- where an element's start tag lies whole, it lies within the message
pub within : (v : Version) (k : ℕ) (r : Row) (names : List ℕ) → names ≡ tags v → (m : List ℕ) (rs : List ℕ) → rs ≡ table v → r ≡ row_in rs k → (p : ℕ) → p ≤ length m
    → Tells v k (due v k) r → Whole ≡ look (opens_by names r) (drop p m) → p + width (row_in (table v) k) ≤ length m
within v k r names e m rs f h p g t c =
    let w : width (row_in (table v) k) ≡ width r = ap width (sym (h ∙ ap (λ (l : List ℕ). row_in l k) f)) in
    let l : length (opens_by names r) ≡ width r = rw e (ap length t.start ∙ sym t.width) in
    omega (arith, w, l, enter_fits (opens_by names r) m p g c)
