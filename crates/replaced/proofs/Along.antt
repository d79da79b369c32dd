-- Two readings side by side, of one message or of two: what each element's steps keep, reading by the whole tree keeps.
use mathlib.Core.Path.{◌≡◌, refl}
use mathlib.Core.Bool.{Bool}
use mathlib.Core.List.{List}
use Prim.Native.Nat.{ℕ, zero, suc, ◌+◌}
use Prim.Native.String.{String}
use lib.ListN.{length, drop}
use Rattle.tags.specs.declared.Look.{Look}
use Rattle.tags.specs.declared.Look.TheVariants.{Whole, Cut, Other}
use Rattle.tags.specs.Tags.{skipped, look, on_look, exactly, plain_tag, start_tag}
use Rattle.profile.specs.declared.Kind.{Kind}
use Rattle.profile.specs.declared.Field.{Field}
use Rattle.profile.specs.Kinds.{is_amount}
use Rattle.profile.specs.Tree.{Occ, once, optional, many, more, Shape, end, leaf, group}
use Rattle.reading.specs.Trace.{item_begins, item_ends, there, absent, Entry, ◌at◌, Trace, met, up_to, fault, and_then, begins, ends, priced, closed, valued, leaf_body, group_body, missing, turn, again, follow, child, trace}

-- every element of a shape, and every end, is as P says
abbrev pub Each : (Shape → Type 0) → Shape → Type 0
Each P (end n) = P (end n)
Each P (leaf o n k f rest) = P (leaf o n k f rest) × Each P rest
Each P (group o n inner rest) = P (group o n inner rest) × Each P inner × Each P rest

-- what stands in an element of a value, behind its start tag at p; and in a group
abbrev pub in_leaf : String → Kind → Field → List ℕ → ℕ → Trace
in_leaf n k f l p = and_then (priced (is_amount k) l (p + length (start_tag (is_amount k) n))) (valued n k f l)

abbrev pub in_group : String → Shape → List ℕ → ℕ → Trace
in_group n inner l p = trace inner l (p + length (plain_tag n))

-- messages m and m'; R says where reading may stand, in one of two ways, and Q what the traces from there on are to each other
module _ (m m' : List ℕ) (R : Bool → ℕ → Type 0) (Q : Bool → Trace → Trace → Type 0) where
  abbrev pub Along : (ℕ → Trace) → (ℕ → Trace) → Type 0
  Along f g = (b : Bool) (p : ℕ) → R b p → Q b (f p) (g p)

  -- a start tag that lies alike in both, and what follows where it lies whole
  abbrev pub Entering : List (ℕ → Bool) → (ℕ → Trace) → (ℕ → Trace) → Type 0
  Entering tag f g = (b : Bool) (p : ℕ) → R b p → (look tag (drop p m) ≡ look tag (drop p m')) × (look tag (drop p m) ≡ Whole → Q b (f p) (g p))

  -- the steps that keep the two relations, where an element is as P says
  pub record Steps (P : Shape → Type 0) : Type 1 where
    pub size : length m ≡ length m'
    pub broken : (b : Bool) (n p : ℕ) → Q b (fault n p) (fault n p)
    pub ended : (b : Bool) (p : ℕ) → R b p → Q b (up_to p) (up_to p)
    pub past : (b : Bool) (e : Entry) (t t' : Trace) → Q b t t' → Q b (met e t) (met e t')
    pub chaining : (f g : ℕ → Trace) → Along f g → (b : Bool) (t t' : Trace) → Q b t t' → Q b (and_then t f) (and_then t' g)
    pub skipping : (b : Bool) (p : ℕ) → R b p → (skipped m p ≡ skipped m' p) × R b (skipped m p)
    pub closing : (n : String) → P (end n) → Along (closed n m) (closed n m')
    pub valuing : (o : Occ) (n : String) (k : Kind) (f : Field) (rest : Shape) → P (leaf o n k f rest)
        → Entering (start_tag (is_amount k) n) (in_leaf n k f m) (in_leaf n k f m')
    pub entering : (o : Occ) (n : String) (inner rest : Shape) → P (group o n inner rest) → Along (trace inner m) (trace inner m')
        → Entering (exactly (plain_tag n)) (in_group n inner m) (in_group n inner m')

  module _ (P : Shape → Type 0) (K : Steps P) where
    begins-along : (o : Occ) (n : String) (b : Bool) (p : ℕ) (t t' : Trace) → Q b t t' → Q b (begins o n p t) (begins o n p t')
    begins-along once n b p t t' h = h
    begins-along optional n b p t t' h = K.past b (there n at p) t t' h
    begins-along many n b p t t' h = K.past b (item_begins at p) t t' h
    begins-along more n b p t t' h = K.past b (item_begins at p) t t' h

    ends-along : (o : Occ) → Along (ends o) (ends o)
    ends-along once b p r = K.ended b p r
    ends-along optional b p r = K.ended b p r
    ends-along many b p r = K.past b (item_ends at p) (up_to p) (up_to p) (K.ended b p r)
    ends-along more b p r = K.past b (item_ends at p) (up_to p) (up_to p) (K.ended b p r)

    -- an element, by what stands in it
    body-along : (o : Occ) (n : String) (tag : List (ℕ → Bool)) (f g : ℕ → Trace) → Entering tag f g
        → Entering tag (λ p. begins o n p (and_then (f p) (ends o))) (λ p. begins o n p (and_then (g p) (ends o)))
    body-along o n tag f g e b p r = (
      (e b p r).0,
      λ w. begins-along o n b p (and_then (f p) (ends o)) (and_then (g p) (ends o)) (K.chaining (ends o) (ends o) (ends-along o) b (f p) (g p) ((e b p r).1 w)),
    )

    missing-along : (o : Occ) (n : String) (b : Bool) (p : ℕ) (t t' : Trace) → Q b t t' → Q b (missing o n p t) (missing o n p t')
    missing-along once n b p t t' h = K.broken b 4 p
    missing-along optional n b p t t' h = K.past b (absent n at p) t t' h
    missing-along many n b p t t' h = K.broken b 4 p
    missing-along more n b p t t' h = h

    turn_along : (o : Occ) (n : String) (tag : List (ℕ → Bool)) (f g next next' rest rest' : ℕ → Trace)
        → Entering tag f g → Along next next' → Along rest rest' → Along (turn o n tag m f next rest) (turn o n tag m' g next' rest')
    turn_along o n tag f g next next' rest rest' e x z b p r =
        let s = K.skipping b p r in
        rw (← s.0, ← (e b (skipped m p) s.1).0, ← K.size)
        (go (look tag (drop (skipped m p) m)) refl)
      where
        ok : R b (skipped m p)
        ok = (K.skipping b p r).1

        go : (l : Look) → look tag (drop (skipped m p) m) ≡ l
            → Q b (on_look l (and_then (f (skipped m p)) next) (fault 3 (length m)) (missing o n (skipped m p) (rest (skipped m p))))
            (on_look l (and_then (g (skipped m p)) next') (fault 3 (length m)) (missing o n (skipped m p) (rest' (skipped m p))))
        go Whole h = K.chaining next next' x b (f (skipped m p)) (g (skipped m p)) ((e b (skipped m p) ok).1 h)
        go Cut h = K.broken b 3 (length m)
        go Other h = missing-along o n b (skipped m p) (rest (skipped m p)) (rest' (skipped m p)) (z b (skipped m p) ok)

    -- a child with the same again where it may come again, then the rest
    module _ (n : String) (tag : List (ℕ → Bool)) (f g rest rest' : ℕ → Trace) (e : Entering tag f g) (z : Along rest rest') where
      again-along : (i : ℕ) → Along (again i n tag m f rest) (again i n tag m' g rest')
      again-along zero = z
      again-along (suc i) = turn_along more n tag f g (again i n tag m f rest) (again i n tag m' g rest') rest rest' e (again-along i) z

      follow-along : (o : Occ) (i : ℕ) → Along (follow o i n tag m f rest) (follow o i n tag m' g rest')
      follow-along once i = z
      follow-along optional i = z
      follow-along many i = again-along i
      follow-along more i = again-along i

      child-along : (o : Occ) → Along (child o n tag m f rest) (child o n tag m' g rest')
      child-along o =
          turn_along o n tag f g (follow o (length m) n tag m f rest) (follow o (length m') n tag m' g rest') rest rest' e follows z
        where
          follows : Along (follow o (length m) n tag m f rest) (follow o (length m') n tag m' g rest')
          follows = rw (← K.size) (follow-along o (length m))

    pub trace_along : (sh : Shape) → Each P sh → Along (trace sh m) (trace sh m')
    trace_along (end n) c = λ b p r. let s = K.skipping b p r in rw (← s.0) (K.closing n c b (skipped m p) s.1)
    trace_along (leaf o n k f rest) c =
        child-along n (start_tag (is_amount k) n) (leaf_body o n k f m) (leaf_body o n k f m') (trace rest m) (trace rest m')
        (body-along o n (start_tag (is_amount k) n) (in_leaf n k f m) (in_leaf n k f m') (K.valuing o n k f rest c.0))
        (trace_along rest c.1) o
    trace_along (group o n inner rest) c =
        child-along n (exactly (plain_tag n)) (group_body o n (trace inner m)) (group_body o n (trace inner m')) (trace rest m) (trace rest m')
        (body-along o n (exactly (plain_tag n)) (in_group n inner m) (in_group n inner m') (K.entering o n inner rest c.0 (trace_along inner c.1)))
        (trace_along rest c.2) o
