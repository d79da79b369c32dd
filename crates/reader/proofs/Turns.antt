-- One turn of the group reader: what is due from a shape on, where its element was seen already or not; and each way on, by how its start tag lies.
use mathlib.Core.Path.{◌≡◌, refl, sym, ap, ◌∙◌}
use mathlib.Core.Bool.{Bool, true, false}
use mathlib.Core.List.{List}
use Prim.Native.Nat.{ℕ, suc, ◌≤◌, ◌<◌}
use native.Mathlib.Omega.{arith}
use borrow.Author.Tests.{leb-true, leb-false}
use lib.Dec.{leb}
use lib.ListN.{length, drop}
use Rattle.text.specs.Truth.{pick}
use Rattle.tags.specs.declared.Look.{Look}
use Rattle.tags.specs.declared.Look.TheVariants.{Whole, Cut, Other}
use Rattle.tags.specs.Tags.{skipped, look, on_look}
use Rattle.profile.specs.declared.Version.{Version}
use Rattle.profile.specs.Tree.{Occ, more, Shape, end, leaf, group}
use Rattle.profile.specs.Profile.{is_type}
use Rattle.reading.specs.Trace.{Trace, up_to, closed, missing, turn, again, follow, trace}
use Rattle.reading.specs.Noted.{Reading, on, stop, onward, Ended}
use Rattle.table.specs.declared.Occ as code
use Rattle.table.specs.declared.Row.{Row}
use Rattle.text.proofs.Truths.{never}
use Rattle.table.specs.Table.{occ_of, repeats, mark_name, opens_by, width, tags, due, Element}
use Rattle.notes.specs.declared.Notes.{Notes}
use Rattle.notes.specs.Steps.{reads}
use Rattle.engine.specs.Engine.{or_else, placed}
use Rattle.reader.specs.Reader.{occ_in, name_in, tag_in, element_in, rest_in}
use Rattle.engine.proofs.Elements.{turn_reads}
use Rattle.engine.proofs.Placed.{turn_placed}

abbrev Found : Type 0
Found = Reading (Ended Notes)

module _ (m : List ℕ) where
  -- ---- what is due from an element on; where it was seen already it may come again, i times more
  abbrev following : Occ → ℕ → Shape → ℕ → Trace
  following o i sh = follow o i (name_in sh) (tag_in sh) m (element_in sh m) (trace (rest_in sh) m)

  abbrev at_element : ℕ → Bool → Shape → ℕ → Trace
  at_element i seen sh = turn (pick seen more (occ_in sh)) (name_in sh) (tag_in sh) m (element_in sh m) (following (pick seen more (occ_in sh)) i sh) (trace (rest_in sh) m)

  abbrev pub from : ℕ → Bool → Shape → ℕ → Trace
  from i seen (end n) p = closed n m (skipped m p)
  from i seen (leaf o n k f rest) p = at_element i seen (leaf o n k f rest) p
  from i seen (group o n inner rest) p = at_element i seen (group o n inner rest) p

  pub start : (sh : Shape) (p : ℕ) → trace sh m p ≡ from (length m) false sh p
  start (end n) p = refl
  start (leaf o n k f rest) p = refl
  start (group o n inner rest) p = refl

  here : (sh : Shape) → Element sh → (i : ℕ) (seen : Bool) (p : ℕ) → from i seen sh p ≡ at_element i seen sh p
  here (end n) e i seen p = absurd e
  here (leaf o n k f rest) e i seen p = refl
  here (group o n inner rest) e i seen p = refl

  follow-rest : (sh : Shape) (i : ℕ) (occ : code.Occ) → repeats occ ≡ false → following (occ_of occ) i sh ≡ trace (rest_in sh) m
  follow-rest sh i code.TheVariants.Once h = refl
  follow-rest sh i code.TheVariants.Optional h = refl
  follow-rest sh i code.TheVariants.Many h = never (cc)
  follow-rest sh i code.TheVariants.More h = never (cc)

  follow-again : (sh : Shape) (i : ℕ) (occ : code.Occ) → repeats occ ≡ true → following (occ_of occ) i sh ≡ again i (name_in sh) (tag_in sh) m (element_in sh m) (trace (rest_in sh) m)
  follow-again sh i code.TheVariants.Once h = never (cc)
  follow-again sh i code.TheVariants.Optional h = never (cc)
  follow-again sh i code.TheVariants.Many h = refl
  follow-again sh i code.TheVariants.More h = refl

-- ---- what a row tells of the element that is due there
pub record Tells (v : Version) (k : ℕ) (sh : Shape) (r : Row) : Type 0 where
  pub element : Element sh
  pub occ : occ_of r.occ ≡ occ_in sh
  pub name : is_type (mark_name r.typed) ≡ is_type (name_in sh)
  pub start : opens_by (tags v) r ≡ tag_in sh
  pub width : width r ≡ length (tag_in sh)
  pub later : k < r.next
  pub next : due v r.next ≡ rest_in sh

module _ (m : List ℕ) (v : Version) (k : ℕ) (sh : Shape) (r : Row) (t : Tells v k sh r) (i : ℕ) (seen : Bool) (occ : code.Occ) (now : occ_of occ ≡ pick seen more (occ_of r.occ)) (p : ℕ) (x : Notes) where
  abbrev q : ℕ
  q = skipped m p

  is-now : occ_of occ ≡ pick seen more (occ_in sh)
  is-now = now ∙ ap (pick seen more) t.occ

  -- what is read where the element is not there
  abbrev pub Missed : Found
  Missed = reads (missing (occ_of occ) (mark_name r.typed) q (up_to q)) x

  -- how the row's start tag lies
  abbrev pub Says : Look → Type 0
  Says l = l ≡ look (opens_by (tags v) r) (drop q m)

  turned : (l : Look) → Says l
      → reads (from m i seen sh p) x
      ≡ on_look l (onward (reads (element_in sh m q) x) (λ s. reads (following m (occ_of occ) i sh s.at) s.notes))
      (stop 3 (length m)) (onward Missed (λ s. reads (trace (rest_in sh) m s.at) s.notes))
  turned l e =
      ap (λ (t : Trace). reads t x) (here m sh t.element i seen p)
      ∙ (turn_reads m (pick seen more (occ_in sh)) (name_in sh) (mark_name r.typed) (sym t.name) (tag_in sh) (element_in sh m) (following m (pick seen more (occ_in sh)) i sh) (trace (rest_in sh) m) p x
      ∙ rw (← is-now, ← t.start, ← e))

  -- and where TxIds begin
  module _ (l : List ℕ) where
    abbrev Placed : List ℕ
    Placed = placed (element_in sh m q) x l

    turned-placed : (w : Look) → Says w
        → placed (from m i seen sh p) x l
        ≡ on_look w (or_else (reads (element_in sh m q) x) (λ s. placed (following m (occ_of occ) i sh s.at) s.notes Placed) Placed)
        l (or_else Missed (λ s. placed (trace (rest_in sh) m s.at) s.notes l) l)
    turned-placed w e =
        ap (λ (t : Trace). placed t x l) (here m sh t.element i seen p)
        ∙ (turn_placed m (pick seen more (occ_in sh)) (name_in sh) (mark_name r.typed) (sym t.name) (tag_in sh) (element_in sh m) (following m (pick seen more (occ_in sh)) i sh) (trace (rest_in sh) m) p x l
        ∙ rw (← is-now, ← t.start, ← e))

    pub cut_placed : Says Cut → placed (from m i seen sh p) x l ≡ l
    cut_placed e = turned-placed Cut e

    pub missed_placed : Says Other → (n y : ℕ) → stop n y ≡ Missed → placed (from m i seen sh p) x l ≡ l
    missed_placed e n y c = turned-placed Other e ∙ rw (← c)

    pub passed_placed : Says Other → (u : Ended Notes) → on u ≡ Missed → placed (from m i seen sh p) x l ≡ placed (trace (due v r.next) m u.at) u.notes l
    passed_placed e u c = turned-placed Other e ∙ rw (← c, t.next)

    module _ (e : Says Whole) where
      pub failed_placed : (n y : ℕ) → stop n y ≡ reads (element_in sh m q) x → placed (from m i seen sh p) x l ≡ Placed
      failed_placed n y c = turned-placed Whole e ∙ rw (← c)

      module _ (s : Ended Notes) (c : on s ≡ reads (element_in sh m q) x) where
        pub gone_on_placed : repeats occ ≡ false → placed (from m i seen sh p) x l ≡ placed (trace (due v r.next) m s.at) s.notes Placed
        gone_on_placed h = turned-placed Whole e ∙ rw (← c, t.next, follow-rest m sh i occ h)

        pub repeated_placed : repeats occ ≡ true → (j : ℕ) → i ≡ suc j → placed (from m i seen sh p) x l ≡ placed (from m j true sh s.at) s.notes Placed
        repeated_placed h j f = turned-placed Whole e ∙ rw (← c, follow-again m sh i occ h, f, here m sh t.element j true s.at)

  pub cut : Says Cut → reads (from m i seen sh p) x ≡ stop 3 (length m)
  cut e = turned Cut e

  module _ (e : Says Other) where
    pub missed : (n y : ℕ) → stop n y ≡ Missed → reads (from m i seen sh p) x ≡ stop n y
    missed n y c = turned Other e ∙ rw (← c)

    pub passed : (u : Ended Notes) → on u ≡ Missed → reads (from m i seen sh p) x ≡ reads (trace (due v r.next) m u.at) u.notes
    passed u c = turned Other e ∙ rw (← c, t.next)

  module _ (e : Says Whole) where
    pub failed : (n y : ℕ) → stop n y ≡ reads (element_in sh m q) x → reads (from m i seen sh p) x ≡ stop n y
    failed n y c = turned Whole e ∙ rw (← c)

    module _ (s : Ended Notes) (c : on s ≡ reads (element_in sh m q) x) where
      pub gone_on : repeats occ ≡ false → reads (from m i seen sh p) x ≡ reads (trace (due v r.next) m s.at) s.notes
      gone_on h = turned Whole e ∙ rw (← c, t.next, follow-rest m sh i occ h)

      pub repeated : repeats occ ≡ true → (j : ℕ) → i ≡ suc j → reads (from m i seen sh p) x ≡ reads (from m j true sh s.at) s.notes
      repeated h j f = turned Whole e ∙ rw (← c, follow-again m sh i occ h, f, here m sh t.element j true s.at)

-- ---- the remaining depth of the tree: a group's is one more than the deepest of its elements'
abbrev deeper : ℕ → ℕ → ℕ
deeper a b = pick (leb a b) b a

abbrev pub deep : Shape → ℕ
deep (end n) = 1
deep (leaf o n k f rest) = deep rest
deep (group o n inner rest) = deeper (suc (deep inner)) (deep rest)

abbrev pub deep_in : Shape → ℕ
deep_in (end n) = 0
deep_in (leaf o n k f rest) = 0
deep_in (group o n inner rest) = deep inner

deeper_both : (a b : ℕ) → (a ≤ deeper a b) × (b ≤ deeper a b)
deeper_both a b = go (leb a b) refl
  where
    go : (c : Bool) → leb a b ≡ c → (a ≤ pick c b a) × (b ≤ pick c b a)
    go true e = (leb-true a b e, omega arith)
    go false e = (omega arith, omega (arith, leb-false a b e))

some_deep : (sh : Shape) → 1 ≤ deep sh
some_deep (end n) = omega arith
some_deep (leaf o n k f rest) = some_deep rest
some_deep (group o n inner rest) = omega (arith, some_deep rest, (deeper_both (suc (deep inner)) (deep rest)).1)

pub rest_deep : (sh : Shape) → deep (rest_in sh) ≤ deep sh
rest_deep (end n) = omega arith
rest_deep (leaf o n k f rest) = omega arith
rest_deep (group o n inner rest) = (deeper_both (suc (deep inner)) (deep rest)).1

pub element_deep : (sh : Shape) → deep_in sh < deep sh
element_deep (end n) = omega arith
element_deep (leaf o n k f rest) = some_deep rest
element_deep (group o n inner rest) = (deeper_both (suc (deep inner)) (deep rest)).0
