-- Two messages, the same bytes but for two values of one length behind one start tag: what is due is read alike in both, but for that value.
use mathlib.Core.Path.{◌≡◌, refl, ap, sym, ◌∙◌}
use mathlib.Core.Bool.{Bool, true, false}
use mathlib.Core.Logic.{◌⊎◌, inl, inr}
use mathlib.Core.List.{List, ◌∷◌, ◌++◌}
use Prim.Native.Nat.{ℕ, ◌+◌, ◌-◌, ◌≤◌, ◌<◌}
use Prim.Native.String.{String}
use native.Mathlib.Omega.{arith}
use borrow.Author.Tests.{lt-ltb}
use lib.Dec.{ltb}
use lib.ListN.{length, take, drop, length-append, length-drop}
use lib.Seq.{drop-drop, drop_at, take-append_seam, take_at}
use Rattle.text.specs.Truth.{pick, lead, every}
use Rattle.text.specs.Quoted.{bytes}
use Rattle.text.proofs.Scan.{lead_before}
use Rattle.tags.specs.declared.Look.{Look}
use Rattle.tags.specs.declared.Look.TheVariants.{Whole, Cut, Other}
use Rattle.tags.specs.Tags.{white, skipped, look, on_look, exactly, end_tag, plain_tag, amount_tag, start_tag, currency, currency_place, in_euro}
use Rattle.tags.specs.Values.{in_value, value_at, behind_value}
use Rattle.tags.proofs.Looks.{exactly_length}
use Rattle.profile.specs.declared.Kind.{Kind}
use Rattle.profile.specs.declared.Field.{Field}
use Rattle.profile.specs.Kinds.{is_amount}
use Rattle.profile.specs.Tree.{Occ, once, optional, many, more, Shape, end, leaf, group}
use Rattle.reading.specs.Trace.{value, Entry, ◌at◌, Trace, met, up_to, fault, and_then, priced, closed, valued, missing, trace}
use Rattle.reading.proofs.Flat.{never}
use Rattle.replaced.proofs.Alike.{Alike, level, Onward, Parts, cut_same, look_cut_same, whole_before, lead_alike, tag_alike}
use Rattle.replaced.proofs.Beside.{Beside, same, here, past, Solid, Swapped, Clear, stuck_at, stuck}
use Rattle.replaced.proofs.Along.{Each, Along, Entering, Steps, in_leaf, in_group, trace_along}

-- a value where it lies, before a `<`
valued_here : (n : String) (k : Kind) (f : Field) (l u z : List ℕ) (q : ℕ) → every in_value u ≡ true → drop q l ≡ u ++ (60 ∷ z)
    → valued n k f l q ≡ met (value k f u at q) (closed n l (q + length u))
unfolding valued
valued_here n k f l u z q e h = rw (led, h, lt-ltb (q + length u) (length l) fits, take-append_seam u (60 ∷ z))
  where
    led : lead in_value (drop q l) ≡ length u
    led = ap (lead in_value) h ∙ lead_before in_value u 60 z e refl

    fits : q + length u < length l
    fits = omega (arith, ap length h, length-drop q l, length-append u (60 ∷ z))

-- an amount's start tag ends in five bytes for its currency
amount_long : (k : Kind) (n : String) → is_amount k ≡ true → 5 ≤ length (start_tag (is_amount k) n)
amount_long k n e = rw e (omega (arith, length-append (exactly (amount_tag n)) currency))

module _ (m m' : List ℕ) (S : Swapped m m') (Fit : Kind → Field → Type 0) where
  abbrev a : List ℕ
  a = S.head ++ (S.v ++ (60 ∷ S.z))

  abbrev a' : List ℕ
  a' = S.head ++ (S.w ++ (60 ∷ S.z))

  -- where reading may stand: before the start tag (false), or behind the value (true)
  abbrev pub Out : Bool → ℕ → Type 0
  Out b p = Alike a a' b (drop p m) (drop p m')

  abbrev On : Bool → ℕ → ℕ → Type 0
  On b p k = Onward a a' b k (drop p m) (drop p m')

  pub on_out : (b : Bool) (p k : ℕ) → On b p k → Out b (p + k)
  on_out b p k h = rw (← drop-drop k p m, ← drop-drop k p m') h.1

  -- traces from such a place on
  pub data Side : Bool → Trace → Trace → Type 0 where
    stops : {b : Bool} {p : ℕ} → Out b p → Side b (up_to p) (up_to p)
    breaks : {b : Bool} {n p : ℕ} → Side b (fault n p) (fault n p)
    passes : {b : Bool} {e : Entry} {t t' : Trace} → Side b t t' → Side b (met e t) (met e t')
    stands : {k : Kind} {f : Field} {q : ℕ} {t t' : Trace} → Fit k f → Side true t t' → Side false (met (value k f S.v at q) t) (met (value k f S.w at q) t')

  side-level : {b : Bool} {t t' : Trace} → b ≡ true → Side b t t' → t ≡ t'
  side-level e (stops o) = refl
  side-level e breaks = refl
  side-level e (passes {e = x} h) = ap (met x) (side-level e h)
  side-level e (stands f h) = never (cc)

  pub side_beside : {b : Bool} {t t' : Trace} → Side b t t' → Beside Fit S.v S.w t t'
  side_beside (stops o) = same
  side_beside breaks = same
  side_beside (passes h) = past (side_beside h)
  side_beside (stands f h) = rw (← side-level refl h) (here f)

  pub side_then : (f g : ℕ → Trace) → ((b : Bool) (p : ℕ) → Out b p → Side b (f p) (g p)) → {b : Bool} {t t' : Trace} → Side b t t' → Side b (and_then t f) (and_then t' g)
  side_then f g k (stops {b = b} {p = p} o) = k b p o
  side_then f g k breaks = breaks
  side_then f g k (passes h) = passes (side_then f g k h)
  side_then f g k (stands x h) = stands x (side_then f g k h)

  -- ---- white space
  pub skip_out : (b : Bool) (p : ℕ) → Out b p → (skipped m p ≡ skipped m' p) × Out b (skipped m p)
  unfolding white
  skip_out b p h =
      let l = lead_alike a a' white refl h in
      (ap (λ (k : ℕ). p + k) l.0, on_out b p (lead white (drop p m)) l.1)

  -- ---- a tag that is clear of the value's own
  module _ (tag : List (ℕ → Bool)) (c : Clear S.head tag) (b : Bool) (p : ℕ) (h : Out b p) where
    seen : (look tag (drop p m) ≡ look tag (drop p m')) × (look tag (drop p m) ≡ Whole → On b p (length tag) ⊎ Parts a a' b (drop p m) (drop p m'))
    seen = tag_alike a a' tag c.0 (c.1 (S.v ++ (60 ∷ S.z)) ∙ sym (c.1 (S.w ++ (60 ∷ S.z)))) h

    pub look_same : look tag (drop p m) ≡ look tag (drop p m')
    look_same = seen.0

    pub whole_on : look tag (drop p m) ≡ Whole → On b p (length tag)
    whole_on w = go (seen.1 w)
      where
        go : On b p (length tag) ⊎ Parts a a' b (drop p m) (drop p m') → On b p (length tag)
        go (inl o) = o
        go (inr e) =
            let y : look tag (60 ∷ a) ≡ Other = c.1 (S.v ++ (60 ∷ S.z)) in
            let x : look tag (60 ∷ a) ≡ Whole = ap (look tag) (sym e.one) ∙ w in
            never (cc)

  closed_same : (n : String) → Clear S.head (exactly (end_tag n)) → (b : Bool) (p : ℕ) → Out b p → Side b (closed n m p) (closed n m' p)
  unfolding closed
  closed_same n c b p h = rw (← look_same (exactly (end_tag n)) c b p h, ← S.size) (go (look (exactly (end_tag n)) (drop p m)) refl)
    where
      go : (l : Look) → look (exactly (end_tag n)) (drop p m) ≡ l
          → Side b (on_look l (up_to (p + length (end_tag n))) (fault 3 (length m)) (fault 4 p)) (on_look l (up_to (p + length (end_tag n))) (fault 3 (length m)) (fault 4 p))
      go Whole e = stops {b = b} {p = p + length (end_tag n)} (rw (← exactly_length (end_tag n)) (on_out b p (length (exactly (end_tag n))) (whole_on (exactly (end_tag n)) c b p h e)))
      go Cut e = breaks
      go Other e = breaks

  -- ---- the currency, within a start tag of w bytes that are the same in both
  euro-same : (p w : ℕ) → 5 ≤ w → take w (drop p m) ≡ take w (drop p m') → in_euro m (p + w) ≡ in_euro m' (p + w)
  unfolding in_euro currency_place
  euro-same p w five e = rw (look_cut_same (exactly (bytes "EUR")) (drop (p + w - 5) m) (drop (p + w - 5) m') cut)
    where
      place : p + w - 5 ≡ p + (w - 5)
      place = omega arith

      cut : take 3 (drop (p + w - 5) m) ≡ take 3 (drop (p + w - 5) m')
      cut = rw (place, ← drop-drop (w - 5) p m, ← drop-drop (w - 5) p m') (cut_same (w - 5) 3 w (drop p m) (drop p m') (omega arith) e)

  -- what follows a start tag where it is in euro, if it is an amount's
  priced-side : (amount : Bool) (b : Bool) (q : ℕ) (g g' : ℕ → Trace) → (amount ≡ true → in_euro m q ≡ in_euro m' q) → Side b (g q) (g' q)
      → Side b (and_then (priced amount m q) g) (and_then (priced amount m' q) g')
  priced-side false b q g g' e h = h
  priced-side true b q g g' e h = rw (← e refl) (go (in_euro m q))
    where
      go : (x : Bool) → Side b (and_then (pick x (up_to q) (fault 6 (currency_place q))) g) (and_then (pick x (up_to q) (fault 6 (currency_place q))) g')
      go true = h
      go false = breaks

  -- ---- a value that lies elsewhere
  valued_same : (n : String) (k : Kind) (f : Field) → Clear S.head (exactly (end_tag n)) → (b : Bool) (p : ℕ) → Out b p → Side b (valued n k f m p) (valued n k f m' p)
  unfolding valued
  valued_same n k f c b p h = rw (← bytes_same, ← l.0, ← S.size) (go (ltb (behind_value m p) (length m)))
    where
      l : (lead in_value (drop p m) ≡ lead in_value (drop p m')) × On b p (lead in_value (drop p m))
      l = lead_alike a a' in_value refl h

      bytes_same : value_at m p ≡ value_at m' p
      bytes_same = l.1.0 ∙ ap (λ (i : ℕ). take i (drop p m')) l.0

      go : (x : Bool) → Side b (pick x (met (value k f (value_at m p) at p) (closed n m (behind_value m p))) (fault 3 (length m)))
          (pick x (met (value k f (value_at m p) at p) (closed n m' (behind_value m p))) (fault 3 (length m)))
      go true = passes (closed_same n c b (behind_value m p) (on_out b p (lead in_value (drop p m)) l.1))
      go false = breaks

  -- an element with a value that lies elsewhere; and the one whose value is replaced
  leaf-same : (n : String) (k : Kind) (f : Field) → Clear S.head (exactly (end_tag n)) → (b : Bool) (p : ℕ) → On b p (length (start_tag (is_amount k) n))
      → Side b (in_leaf n k f m p) (in_leaf n k f m' p)
  leaf-same n k f c b p h =
      let w = length (start_tag (is_amount k) n) in
      priced-side (is_amount k) b (p + w) (valued n k f m) (valued n k f m') (λ e. euro-same p w (amount_long k n e) h.0)
      (valued_same n k f c b (p + w) (on_out b p w h))

  -- behind the value's own start tag
  module _ (p : ℕ) (e : drop p m ≡ 60 ∷ a) (e' : drop p m' ≡ 60 ∷ a') where
    abbrev q : ℕ
    q = p + length S.own

    behind : (l : List ℕ) (u : List ℕ) → drop p l ≡ 60 ∷ (S.head ++ u) → drop q l ≡ u
    behind l u h = sym (drop-drop (length S.own) p l) ∙ ap (drop (length S.own)) h ∙ drop_at (60 ∷ S.head) u (length S.own) (sym S.wide)

    level-there : Out true (q + length S.v)
    level-there =
        rw (
          ← drop-drop (length S.v) q m,
          behind m (S.v ++ (60 ∷ S.z)) e,
          drop_at S.v (60 ∷ S.z) (length S.v) refl,
          ← drop-drop (length S.v) q m',
          behind m' (S.w ++ (60 ∷ S.z)) e',
          drop_at S.w (60 ∷ S.z) (length S.v) (sym S.long),
        )
        level

    own-valued : (n : String) (k : Kind) (f : Field) → Clear S.head (exactly (end_tag n)) → Fit k f → Side false (valued n k f m q) (valued n k f m' q)
    own-valued n k f c fit =
        rw (
          valued_here n k f m S.v S.z q S.tagless (behind m (S.v ++ (60 ∷ S.z)) e),
          valued_here n k f m' S.w S.z q S.tagless' (behind m' (S.w ++ (60 ∷ S.z)) e'),
          ← S.long,
        )
        (stands fit (closed_same n c true (q + length S.v) level-there))

    start-same : take (length S.own) (drop p m) ≡ take (length S.own) (drop p m')
    start-same =
        ap (take (length S.own)) e
        ∙ take_at (60 ∷ S.head) (S.v ++ (60 ∷ S.z)) (length S.own) (sym S.wide)
        ∙ sym (take_at (60 ∷ S.head) (S.w ++ (60 ∷ S.z)) (length S.own) (sym S.wide))
        ∙ ap (take (length S.own)) (sym e')

    own-leaf : (n : String) (k : Kind) (f : Field) → Clear S.head (exactly (end_tag n)) → Fit k f → start_tag (is_amount k) n ≡ S.own
        → Side false (in_leaf n k f m p) (in_leaf n k f m' p)
    own-leaf n k f c fit own =
        rw own
        (priced-side (is_amount k) false q (valued n k f m) (valued n k f m')
        (λ x. euro-same p (length S.own) (rw own at (amount_long k n x)) start-same) (own-valued n k f c fit))

  missing-side : (b : Bool) (q : ℕ) (o : Occ) (n : String) (t : Trace) → Side b t t → Side b (missing o n q t) (missing o n q t)
  missing-side b q once n t h = breaks
  missing-side b q optional n t h = passes h
  missing-side b q many n t h = breaks
  missing-side b q more n t h = h

  stuck-side : (b : Bool) (q : ℕ) (sh : Shape) → Side b (stuck_at sh q) (stuck_at sh q)
  stuck-side b q (end n) = breaks
  stuck-side b q (leaf o n k f rest) = missing-side b q o n (stuck_at rest q) (stuck-side b q rest)
  stuck-side b q (group o n inner rest) = missing-side b q o n (stuck_at rest q) (stuck-side b q rest)

  -- ---- the steps
  -- the elements of a tree beside the value's own: every tag is clear of its start tag, but that of an element of such a value, or of a group where the values are solid
  abbrev pub Apart : Shape → Type 0
  Apart (end n) = Clear S.head (exactly (end_tag n))
  Apart (leaf o n k f rest) = Clear S.head (exactly (end_tag n)) × (Clear S.head (start_tag (is_amount k) n) ⊎ ((start_tag (is_amount k) n ≡ S.own) × Fit k f))
  Apart (group o n inner rest) = Clear S.head (exactly (plain_tag n)) ⊎ ((exactly (plain_tag n) ≡ S.own) × Solid S.v × Solid S.w)

  own-seen : (b : Bool) (p : ℕ) → Out b p
      → (look S.own (drop p m) ≡ look S.own (drop p m')) × (look S.own (drop p m) ≡ Whole → On b p (length S.own) ⊎ Parts a a' b (drop p m) (drop p m'))
  own-seen b p h =
      tag_alike a a' S.own S.firm
      (whole_before S.own (60 ∷ S.head) (S.v ++ (60 ∷ S.z)) S.lies ∙ sym (whole_before S.own (60 ∷ S.head) (S.w ++ (60 ∷ S.z)) S.lies)) h

  leaf-enters : (o : Occ) (n : String) (k : Kind) (f : Field) (rest : Shape) → Apart (leaf o n k f rest)
      → Entering m m' Out Side (start_tag (is_amount k) n) (in_leaf n k f m) (in_leaf n k f m')
  leaf-enters o n k f rest (c, inl d) b p h =
      (look_same (start_tag (is_amount k) n) d b p h, λ w. leaf-same n k f c b p (whole_on (start_tag (is_amount k) n) d b p h w))
  leaf-enters o n k f rest (c, inr x) b p h =
      (rw x.0 (own-seen b p h).0, λ w. go ((own-seen b p h).1 (rw x.0 at w)))
    where
      go : On b p (length S.own) ⊎ Parts a a' b (drop p m) (drop p m') → Side b (in_leaf n k f m p) (in_leaf n k f m' p)
      go (inl on-it) = leaf-same n k f c b p (rw x.0 on-it)
      go (inr e) = rw e.ahead (own-leaf p e.one e.other n k f c x.1 x.0)

  group-enters : (o : Occ) (n : String) (inner rest : Shape) → Apart (group o n inner rest) → Along m m' Out Side (trace inner m) (trace inner m')
      → Entering m m' Out Side (exactly (plain_tag n)) (in_group n inner m) (in_group n inner m')
  group-enters o n inner rest (inl d) z b p h = (
    look_same (exactly (plain_tag n)) d b p h,
    λ w. z b (p + length (plain_tag n)) (rw (← exactly_length (plain_tag n)) (on_out b p (length (exactly (plain_tag n))) (whole_on (exactly (plain_tag n)) d b p h w))),
  )
  group-enters o n inner rest (inr x) z b p h =
      (rw x.0 (own-seen b p h).0, λ w. go ((own-seen b p h).1 (rw x.0 at w)))
    where
      wide : length (plain_tag n) ≡ length S.own
      wide = sym (exactly_length (plain_tag n)) ∙ ap (λ (t : List (ℕ → Bool)). length t) x.0

      go : On b p (length S.own) ⊎ Parts a a' b (drop p m) (drop p m') → Side b (in_group n inner m p) (in_group n inner m' p)
      go (inl on-it) = z b (p + length (plain_tag n)) (rw wide (on_out b p (length S.own) on-it))
      go (inr e) =
          rw (
            wide,
            stuck m (p + length S.own) S.v (60 ∷ S.z) (behind p e.one e.other m (S.v ++ (60 ∷ S.z)) e.one) x.1 inner,
            stuck m' (p + length S.own) S.w (60 ∷ S.z) (behind p e.one e.other m' (S.w ++ (60 ∷ S.z)) e.other) x.2 inner,
          )
          (stuck-side b (p + length S.own) inner)

  pub steps : Steps m m' Out Side Apart
  steps =
      record {
        size = S.size;
        broken = λ b n p. breaks;
        ended = λ b p r. stops r;
        past = λ b e t t' h. passes h;
        chaining = λ f g k b t t' h. side_then f g k h;
        skipping = skip_out;
        closing = closed_same;
        valuing = leaf-enters;
        entering = group-enters;
      }

  -- what is due, read from such a place on
  pub trace_side : (sh : Shape) → Each Apart sh → (b : Bool) (p : ℕ) → Out b p → Side b (trace sh m p) (trace sh m' p)
  trace_side = trace_along m m' Out Side Apart steps
