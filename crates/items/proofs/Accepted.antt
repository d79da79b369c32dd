-- The items of an accepted message stand in it one behind the other, from its first one on, as many as its count.
use mathlib.Core.Path.{◌≡◌, refl, sym, ap, ◌∙◌}
use mathlib.Core.Bool.{Bool, true, false}
use mathlib.Core.List.{List, [], ◌∷◌, append-nil}
use Prim.Native.Nat.{ℕ, zero, suc, ◌+◌, ◌≤◌, ◌<◌}
use native.Mathlib.Omega.{arith}
use borrow.Author.Tests.{ltb-false}
use lib.Dec.{eqb, ltb}
use lib.ListN.{length}
use Rattle.text.specs.Truth.{pick}
use Rattle.text.specs.Quoted.{decimal}
use Rattle.tags.specs.Tags.{skipped}
use Rattle.money.specs.Amount.{cents}
use Rattle.profile.specs.declared.Kind.TheVariants.{Count, Total}
use Rattle.profile.specs.declared.Version.{Version}
use Rattle.profile.specs.Limits.{most_bytes}
use Rattle.profile.specs.Profile.{profile}
use Rattle.reading.specs.Trace.{What, item_begins, item_ends, there, absent, value, Entry, Trace, up_to, fault, trace, Opened, from, faulty, opened, behind_all, inside, message}
use Rattle.reading.specs.Noted.{Reading, on, stop, Ended, noted}
use Rattle.reading.specs.Rules.{begun, items_in, cents_in}
use Rattle.reading.specs.Verdict.{accepted, refused, not_there}
use Rattle.reading.specs.Judged.{whats, listed, only_of, place_of, compared, verdict, judged}
use Rattle.reading.specs.Items.{Item, next_end, up_to_end, item_or, items_of, notes_of, the_items, item_from, item}
use Rattle.reading.proofs.Flat.{never, flat, Goes, goes_flat, goes_through, same_end}
use Rattle.items.specs.Alone.{first_in}
use Rattle.items.specs.Walk.{walked}
use Rattle.items.specs.Chain.{Chained, none, next, Itemized}
use Rattle.items.proofs.Chains.{profile_chained}

-- ---- as many items as begin
one_more : (w : What) (x : Item) (l : List Item) (n : ℕ) → length l ≡ n → length (item_or w x l) ≡ begun w + n
one_more item_begins x l n e = omega arith
one_more item_ends x l n e = omega arith
one_more (there s) x l n e = omega arith
one_more (absent s) x l n e = omega arith
one_more (value k f v) x l n e = omega arith

pub items_many : (es : List Entry) → length (items_of es) ≡ items_in (whats es)
items_many [] = refl
items_many (e ∷ l) = one_more e.what (record { from = e.place; to = next_end l; holds = up_to_end l }) (items_of l) (items_in (whats l)) (items_many l)

compared_many : (es : List Entry) (n c : ℕ) → compared es ≡ accepted n c → items_in (whats es) ≡ n
unfolding compared
compared_many es n c = go (eqb (decimal (only_of Count es)) (items_in (whats es))) (eqb (cents (only_of Total es)) (cents_in (whats es)))
  where
    go : (a b : Bool)
        → pick a (pick b (accepted (items_in (whats es)) (cents_in (whats es))) (refused 15 (place_of Total es))) (refused 14 (place_of Count es)) ≡ accepted n c
        → items_in (whats es) ≡ n
    go true true e = cc
    go true false e = never (cc)
    go false b e = never (cc)

module _ (m : List ℕ) (n c : ℕ) where
  record Listed (t : Trace) : Type 0 where
    pub ended : Ended (List Entry)
    pub goes : Goes t [] ended
    pub many : items_in (whats ended.notes) ≡ n

  accepted-listed : (t : Trace) → verdict (noted listed t []) ≡ accepted n c → Listed t
  accepted-listed t = go (noted listed t []) refl
    where
      go : (x : Reading (Ended (List Entry))) → noted listed t [] ≡ x → verdict x ≡ accepted n c → Listed t
      go (on r) z e = record { ended = r; goes = z; many = compared_many r.notes n c e }
      go (stop i q) z e = never (cc)

  behind-flat : (p : ℕ) → flat (behind_all m p) ≡ []
  unfolding behind_all
  behind-flat p = go (ltb (skipped m p) (length m))
    where
      go : (b : Bool) → flat (pick b (fault 16 (skipped m p)) (up_to (skipped m p))) ≡ []
      go true = refl
      go false = refl

  itemized : (o : Opened) → opened m ≡ o → length m ≤ most_bytes → message m ≡ inside m o → Listed (inside m o) → Itemized m n
  itemized (faulty i q) z s y l = never (cc l.goes)
  itemized (from v p) z s y l =
      let t = trace (profile v) m p in
      let r = l.ended in
      let h = goes_through t (behind_all m) [] r l.goes in
      let f : h.mid.notes ≡ flat t = goes_flat t [] h.mid h.first in
      let u : r.notes ≡ h.mid.notes = goes_flat (behind_all m h.mid.at) h.mid.notes r h.then ∙ rw (behind-flat h.mid.at) (append-nil h.mid.notes) in
      let g : noted listed (message m) [] ≡ on (record { at = r.at; notes = h.mid.notes }) = ap (λ (t : Trace). noted listed t []) y ∙ (l.goes ∙ rw (← u)) in
      let x : the_items m ≡ items_of h.mid.notes = ap (λ k. items_of (notes_of k)) g in
      let k = (profile_chained m v p [] h.mid h.first).items in
      record {
        short = s;
        version = v;
        place = p;
        opens = z;
        ended = h.mid;
        reads = h.first;
        last = r.at;
        goes = g;
        within = rw f k.within;
        chain = rw (x, f) k.chain;
        many = ap length x ∙ (items_many h.mid.notes ∙ (ap (λ (l : List Entry). items_in (whats l)) (sym u) ∙ l.many));
      }

  -- the items of an accepted message
  pub accepted_chained : judged m ≡ accepted n c → Itemized m n
  unfolding judged message
  accepted_chained = go (ltb most_bytes (length m)) refl
    where
      go : (b : Bool) → ltb most_bytes (length m) ≡ b → verdict (noted listed (pick b (fault 1 0) (inside m (opened m))) []) ≡ accepted n c → Itemized m n
      go true z e = never (cc)
      go false z e = itemized (opened m) refl (ltb-false most_bytes (length m) z) (rw z) (accepted-listed (inside m (opened m)) e)

-- ---- item i, walking from item to item
module _ (v : Version) (m : List ℕ) where
  pub chain_walked : {p : ℕ} {l : List Item} → Chained v m p l → (i : ℕ) → i < length l → item_from i l ≡ walked i v m p
  chain_walked none i h = never (omega arith)
  chain_walked (next s c) zero h = rw (s.alone, s.from)
  chain_walked (next s c) (suc i) h = rw s.alone (chain_walked c i (omega arith))

none_there : (l : List Item) (i : ℕ) → length l ≤ i → item_from i l ≡ not_there 18 0
none_there [] i h = refl
none_there (x ∷ l) zero h = never (omega arith)
none_there (x ∷ l) (suc i) h = none_there l i (omega arith)

-- a message is opened in one way, and read in one way
same_from : (u v : Version) (p q : ℕ) → from u p ≡ from v q → (u ≡ v) × (p ≡ q)
same_from u v p q e = ((cc), (cc))

module _ (m : List ℕ) (n c : ℕ) (e : judged m ≡ accepted n c) where
  pub item_asked : (i : ℕ) → item i m ≡ item_from i (the_items m)
  unfolding item
  item_asked i = rw e

  -- however it was opened and read up to the end of its root: the items stand from the first one on
  module _ (v : Version) (p : ℕ) (r : Ended (List Entry)) (o : opened m ≡ from v p) (g : noted listed (trace (profile v) m p) [] ≡ on r) where
    pub chained_as : (first_in r.notes ≤ length m) × Chained v m (first_in r.notes) (the_items m)
    chained_as = go x.version x.place x.ended (same_from x.version v x.place p (sym x.opens ∙ o)) x.reads x.within x.chain
      where
        x : Itemized m n
        x = accepted_chained m n c e

        go : (u : Version) (q : ℕ) (s : Ended (List Entry)) → (u ≡ v) × (q ≡ p) → noted listed (trace (profile u) m q) [] ≡ on s → first_in s.notes ≤ length m
            → Chained u m (first_in s.notes) (the_items m) → (first_in r.notes ≤ length m) × Chained v m (first_in r.notes) (the_items m)
        go u q s z h w k =
            let y : s ≡ r = same_end s r (sym h ∙ (rw (z.0, z.1) g)) in
            rw (← z.0, ← y) (w, k)

    -- item i is found by reading from item to item, each alone
    pub item_walked : (i : ℕ) → i < n → item i m ≡ walked i v m (first_in r.notes)
    item_walked i h = item_asked i ∙ chain_walked v m chained_as.1 i (omega (arith, (accepted_chained m n c e).many))

  pub item_past : (i : ℕ) → n ≤ i → item i m ≡ not_there 18 0
  item_past i h = item_asked i ∙ none_there (the_items m) i (omega (arith, (accepted_chained m n c e).many))
