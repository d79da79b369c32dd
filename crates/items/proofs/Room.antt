-- What stands once in an item keeps up with the items: where there is room for the amounts of a tree, reading by it leaves the rest of the room, in whatever way is noted.
-- What counts as an amount is given (`own`): the amounts themselves, or TxIds.
use mathlib.Core.Path.{◌≡◌, refl}
use mathlib.Core.Bool.{Bool, true, false}
use mathlib.Core.List.{List}
use Prim.Native.Nat.{ℕ, zero, suc, ◌+◌, ◌*◌, ◌≤◌}
use Prim.Native.String.{String}
use native.Mathlib.Omega.{arith}
use borrow.Author.Tests.{leb-true}
use lib.Dec.{leb, ltb}
use lib.ListN.{length, drop}
use Rattle.text.specs.Truth.{both, pick}
use Rattle.text.proofs.Truths.{both_true, never}
use Rattle.tags.specs.declared.Look.{Look}
use Rattle.tags.specs.declared.Look.TheVariants.{Whole, Cut, Other}
use Rattle.tags.specs.Tags.{skipped, look, on_look, exactly, end_tag, plain_tag, start_tag, currency_place, in_euro}
use Rattle.tags.specs.Values.{value_at, behind_value}
use Rattle.money.specs.declared.Range.TheVariants.{Item as an_item}
use Rattle.money.specs.Amount.{most}
use Rattle.profile.specs.declared.Kind.{Kind}
use Rattle.profile.specs.declared.Field.{Field}
use Rattle.profile.specs.declared.Field.TheVariants.{TxId}
use Rattle.profile.specs.Fields.{same_field}
use Rattle.profile.specs.Kinds.{is_amount}
use Rattle.profile.specs.declared.Version.{Version}
use Rattle.profile.specs.declared.Version.TheVariants.{V02, V08}
use Rattle.profile.specs.Limits.{most_bytes}
use Rattle.profile.specs.Tree.{Occ, once, optional, many, more, Shape, end, leaf, group}
use Rattle.profile.specs.Profile.{profile}
use Rattle.reading.specs.Trace.{What, item_begins, item_ends, there, absent, value, Entry, ◌at◌, Trace, met, up_to, fault, and_then}
use Rattle.reading.specs.Trace.{begins, ends, priced, closed, valued, leaf_body, group_body, missing, turn, again, follow, child, trace, Opened, from, faulty, opened, behind_all, inside, message}
use Rattle.reading.specs.Noted.{on, Ended, Noting, noted}
use Rattle.reading.specs.Rules.{begun}
use Rattle.reading.proofs.Flat.{through}
use Rattle.items.specs.Sums.{of_others, counted_in, an_amount, amounts_in}

-- an item has one amount at most
abbrev pub fair : Occ → ℕ → Bool
fair once x = true
fair optional x = true
fair many x = leb x 1
fair more x = leb x 1

module _ (own : Kind → Field → ℕ) where
  abbrev pub fairly : Shape → Bool
  fairly (end n) = true
  fairly (leaf o n k f rest) = both (fair o (own k f)) (fairly rest)
  fairly (group o n inner rest) = both (fair o (counted_in own inner)) (both (fairly inner) (fairly rest))

  -- how many amounts what is met has
  abbrev pub paid : What → ℕ
  paid item_begins = 0
  paid item_ends = 0
  paid (there n) = 0
  paid (absent n) = 0
  paid (value k f v) = own k f

  -- a way of noting that keeps a sum of amounts, each in its range, and counts the items
  module _ {S : Type 0} (note : Noting S) (sum count : S → ℕ)
      (step : (e : Entry) (s u : S) → note e s ≡ on u → (sum u ≤ sum s + paid e.what * most an_item) × (count u ≡ count s + begun e.what)) where
    -- there is room for x amounts more
    abbrev pub Room : ℕ → S → Type 0
    Room x s = sum s + x * most an_item ≤ count s * most an_item

    -- the sum is within its items all along, and at the end there is room for x amounts
    abbrev pub Leaves : ℕ → Trace → S → Type 0
    Leaves x (met e t) s = Room 0 s × ((u : S) → note e s ≡ on u → Leaves x t u)
    Leaves x (up_to p) s = Room x s
    Leaves x (fault n q) s = Room 0 s

    pub within : (x : ℕ) (t : Trace) (s : S) → Leaves x t s → Room 0 s
    within x (met e t) s h = h.0
    within x (up_to p) s h = omega (arith, h)
    within x (fault n q) s h = h

    pub ended_room : (x : ℕ) (t : Trace) (s : S) (r : Ended S) → Leaves x t s → noted note t s ≡ on r → Room x r.notes
    ended_room x (met e t) s r h q =
        let z = through (note e s) (noted note t) r q in
        ended_room x t z.mid r (h.1 z.mid z.first) z.then
    ended_room x (up_to p) s r h q =
        let z : s ≡ r.notes = cc in
        rw (← z) h
    ended_room x (fault n p) s r h q = never (cc)

    pub leaves_then : (x y : ℕ) (t : Trace) (g : ℕ → Trace) (s : S) → Leaves y t s → ((p : ℕ) (u : S) → Room y u → Leaves x (g p) u) → Leaves x (and_then t g) s
    leaves_then x y (met e t) g s h k = (h.0, λ u q. leaves_then x y t g u (h.1 u q) k)
    leaves_then x y (up_to p) g s h k = k p s h
    leaves_then x y (fault n q) g s h k = h

    leaves-met : (x y z : ℕ) (e : Entry) (t : Trace) (s : S) → paid e.what + z ≤ y + begun e.what → Room y s → ((u : S) → Room z u → Leaves x t u) → Leaves x (met e t) s
    leaves-met x y z e t s h r k =
        (omega (arith, r), λ u q. let d = step e s u q in k u (omega (arith, h, r, d.0, d.1)))

    -- ---- an element
    pub leaves_begins : (x y a : ℕ) (o : Occ) (n : String) (p : ℕ) (t : Trace) (s : S) → fair o a ≡ true → Room (of_others o a + y) s → ((u : S) → Room (a + y) u → Leaves x t u)
        → Leaves x (begins o n p t) s
    leaves_begins x y a once n p t s f r k = k s r
    leaves_begins x y a optional n p t s f r k = leaves-met x (a + y) (a + y) (there n at p) t s (omega arith) r k
    leaves_begins x y a many n p t s f r k = leaves-met x (0 + y) (a + y) (item_begins at p) t s (omega (arith, leb-true a 1 f)) r k
    leaves_begins x y a more n p t s f r k = leaves-met x (0 + y) (a + y) (item_begins at p) t s (omega (arith, leb-true a 1 f)) r k

    leaves-ends : (x : ℕ) (o : Occ) (p : ℕ) (s : S) → Room x s → Leaves x (ends o p) s
    leaves-ends x once p s r = r
    leaves-ends x optional p s r = r
    leaves-ends x many p s r = leaves-met x x x (item_ends at p) (up_to p) s (omega arith) r (λ u q. q)
    leaves-ends x more p s r = leaves-met x x x (item_ends at p) (up_to p) s (omega arith) r (λ u q. q)

    leaves-body : (y a : ℕ) (o : Occ) (n : String) (p : ℕ) (t : Trace) (s : S) → fair o a ≡ true → ((u : S) → Room (a + y) u → Leaves y t u) → Room (of_others o a + y) s
        → Leaves y (begins o n p (and_then t (ends o))) s
    leaves-body y a o n p t s f k r = leaves_begins y y a o n p (and_then t (ends o)) s f r (λ u q. leaves_then y y t (ends o) u (k u q) (leaves-ends y o))

    pub leaves_missing : (x y : ℕ) (o : Occ) (n : String) (p : ℕ) (t : Trace) (s : S) → Room y s → ((u : S) → Room y u → Leaves x t u) → Leaves x (missing o n p t) s
    leaves_missing x y once n p t s r k = omega (arith, r)
    leaves_missing x y optional n p t s r k = leaves-met x y y (absent n at p) t s (omega arith) r k
    leaves_missing x y many n p t s r k = omega (arith, r)
    leaves_missing x y more n p t s r k = k s r

    module _ (m : List ℕ) where
      leaves-closed : (x : ℕ) (n : String) (p : ℕ) (s : S) → Room x s → Leaves x (closed n m p) s
      unfolding closed
      leaves-closed x n p s r = go (look (exactly (end_tag n)) (drop p m))
        where
          go : (l : Look) → Leaves x (on_look l (up_to (p + length (end_tag n))) (fault 3 (length m)) (fault 4 p)) s
          go Whole = r
          go Cut = omega (arith, r)
          go Other = omega (arith, r)

      leaves-valued : (x : ℕ) (n : String) (k : Kind) (f : Field) (p : ℕ) (s : S) → Room (own k f + x) s → Leaves x (valued n k f m p) s
      unfolding valued
      leaves-valued x n k f p s r = go (ltb (behind_value m p) (length m))
        where
          go : (b : Bool) → Leaves x (pick b (met (value k f (value_at m p) at p) (closed n m (behind_value m p))) (fault 3 (length m))) s
          go true = leaves-met x (own k f + x) x (value k f (value_at m p) at p) (closed n m (behind_value m p)) s (omega arith) r (leaves-closed x n (behind_value m p))
          go false = omega (arith, r)

      pub leaves_priced : (x : ℕ) (b : Bool) (p : ℕ) (s : S) → Room x s → Leaves x (priced b m p) s
      leaves_priced x false p s r = r
      leaves_priced x true p s r = go (in_euro m p)
        where
          go : (b : Bool) → Leaves x (pick b (up_to p) (fault 6 (currency_place p))) s
          go true = r
          go false = omega (arith, r)

      -- ---- a group's child, as often as it may come: y is left for what is behind it
      module _ (x y : ℕ) (n : String) (tag : List (ℕ → Bool)) (body rest : ℕ → Trace) (z : (p : ℕ) (u : S) → Room y u → Leaves x (rest p) u) where
        abbrev Bodies : ℕ → Type 0
        Bodies a = (p : ℕ) (u : S) → Room (a + y) u → Leaves y (body p) u

        leaves-turn : (a : ℕ) → Bodies a → (o : Occ) (next : ℕ → Trace) → ((p : ℕ) (u : S) → Room y u → Leaves x (next p) u) → (p : ℕ) (s : S) → Room (a + y) s
            → Leaves x (turn o n tag m body next rest p) s
        leaves-turn a b o next h p s r = go (look tag (drop (skipped m p) m))
          where
            go : (l : Look) → Leaves x (on_look l (and_then (body (skipped m p)) next) (fault 3 (length m)) (missing o n (skipped m p) (rest (skipped m p)))) s
            go Whole = leaves_then x y (body (skipped m p)) next s (b (skipped m p) s r) h
            go Cut = omega (arith, r)
            go Other = leaves_missing x y o n (skipped m p) (rest (skipped m p)) s (omega (arith, r)) (z (skipped m p))

        leaves-again : Bodies 0 → (i p : ℕ) (s : S) → Room y s → Leaves x (again i n tag m body rest p) s
        leaves-again b zero p s r = z p s r
        leaves-again b (suc i) p s r = leaves-turn 0 b more (again i n tag m body rest) (leaves-again b i) p s (omega (arith, r))

        leaves-child : (a : ℕ) (o : Occ) → Bodies (of_others o a) → (p : ℕ) (s : S) → Room (of_others o a + y) s → Leaves x (child o n tag m body rest p) s
        leaves-child a o b = leaves-turn (of_others o a) b o (follow o (length m) n tag m body rest) (go o b)
          where
            go : (o : Occ) → Bodies (of_others o a) → (p : ℕ) (u : S) → Room y u → Leaves x (follow o (length m) n tag m body rest p) u
            go once b = z
            go optional b = z
            go many b = leaves-again b (length m)
            go more b = leaves-again b (length m)

      pub leaves_leaf : (y : ℕ) (o : Occ) (n : String) (k : Kind) (f : Field) → fair o (own k f) ≡ true → (p : ℕ) (s : S) → Room (of_others o (own k f) + y) s → Leaves y (leaf_body o n k f m p) s
      leaves_leaf y o n k f e p s =
          leaves-body y (own k f) o n p (and_then (priced (is_amount k) m (p + length (start_tag (is_amount k) n))) (valued n k f m)) s e
          (λ u q. leaves_then y (own k f + y) (priced (is_amount k) m (p + length (start_tag (is_amount k) n))) (valued n k f m) u
          (leaves_priced (own k f + y) (is_amount k) (p + length (start_tag (is_amount k) n)) u q) (leaves-valued y n k f))

      pub leaves_group : (y : ℕ) (o : Occ) (n : String) (inner : Shape) → fair o (counted_in own inner) ≡ true → ((p : ℕ) (u : S) → Room (counted_in own inner + y) u → Leaves y (trace inner m p) u)
          → (p : ℕ) (s : S) → Room (of_others o (counted_in own inner) + y) s → Leaves y (group_body o n (trace inner m) p) s
      leaves_group y o n inner e h p s = leaves-body y (counted_in own inner) o n p (trace inner m (p + length (plain_tag n))) s e (h (p + length (plain_tag n)))

      pub leaves_trace : (sh : Shape) → fairly sh ≡ true → (x p : ℕ) (s : S) → Room (counted_in own sh + x) s → Leaves x (trace sh m p) s
      leaves_trace (end n) e x p s r = leaves-closed x n (skipped m p) s (omega (arith, r))
      leaves_trace (leaf o n k f rest) e x p s r =
          let b = both_true (fair o (own k f)) (fairly rest) e in
          leaves-child x (counted_in own rest + x) n (start_tag (is_amount k) n) (leaf_body o n k f m) (trace rest m) (leaves_trace rest b.1 x)
          (own k f) o (leaves_leaf (counted_in own rest + x) o n k f b.0) p s (omega (arith, r))
      leaves_trace (group o n inner rest) e x p s r =
          let b = both_true (fair o (counted_in own inner)) (both (fairly inner) (fairly rest)) e in
          let c = both_true (fairly inner) (fairly rest) b.1 in
          let y = counted_in own rest + x in
          leaves-child x y n (exactly (plain_tag n)) (group_body o n (trace inner m)) (trace rest m) (leaves_trace rest c.1 x)
          (counted_in own inner) o (leaves_group y o n inner b.0 (leaves_trace inner c.0 y)) p s (omega (arith, r))

      -- ---- all along a message
      pub message_leaves : ((v : Version) → fairly (profile v) ≡ true) → ((v : Version) → counted_in own (profile v) ≡ 0) → (s : S) → Room 0 s → Leaves 0 (message m) s
      unfolding message behind_all
      message_leaves fair none s r = go (ltb most_bytes (length m)) (opened m)
        where
          behind : (p : ℕ) (u : S) → Room 0 u → Leaves 0 (pick (ltb (skipped m p) (length m)) (fault 16 (skipped m p)) (up_to (skipped m p))) u
          behind p u r = end (ltb (skipped m p) (length m))
            where
              end : (b : Bool) → Leaves 0 (pick b (fault 16 (skipped m p)) (up_to (skipped m p))) u
              end true = r
              end false = r

          go : (b : Bool) (o : Opened) → Leaves 0 (pick b (fault 1 0) (inside m o)) s
          go true o = r
          go false (faulty n q) = r
          go false (from v p) =
              leaves_then 0 0 (trace (profile v) m p) (behind_all m) s (leaves_trace (profile v) (fair v) 0 p s (omega (arith, r, none v))) behind

-- in the profile every item has, and no amount stands outside the items
pub profile_fair : (v : Version) → fairly an_amount (profile v) ≡ true
unfolding profile
profile_fair V02 = refl
profile_fair V08 = refl

pub profile_none : (v : Version) → amounts_in (profile v) ≡ 0
unfolding profile
profile_none V02 = refl
profile_none V08 = refl

-- a TxId in every item, and none outside
abbrev pub an_id : Kind → Field → ℕ
an_id k f = pick (same_field f TxId) 1 0

pub ids_fair : (v : Version) → fairly an_id (profile v) ≡ true
unfolding profile
ids_fair V02 = refl
ids_fair V08 = refl

pub ids_none : (v : Version) → counted_in an_id (profile v) ≡ 0
unfolding profile
ids_none V02 = refl
ids_none V08 = refl
