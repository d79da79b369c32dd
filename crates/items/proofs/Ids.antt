-- The TxIds that are read of a message, without the rule of 24: at most one for each item, and each lies where it says.
use mathlib.Core.Path.{◌≡◌, refl, sym, ap, ◌∙◌}
use mathlib.Core.Bool.{Bool, true, false}
use mathlib.Core.List.{List, [], ◌∷◌, ◌++◌, append-nil}
use Prim.Native.Nat.{ℕ, ◌+◌, ◌*◌, ◌≤◌}
use native.Mathlib.Omega.{arith}
use borrow.Author.Tests.{ltb-true}
use lib.Dec.{ltb}
use lib.ListN.{length, length-append}
use Rattle.text.specs.Truth.{pick}
use Rattle.text.proofs.Truths.{never}
use Rattle.answers.specs.Given.{Given, yes, worth, refused as no, ◌else◌, in_order}
use Rattle.money.specs.declared.Range.TheVariants.{Item as an_item}
use Rattle.money.specs.Amount.{most}
use Rattle.tags.specs.Tags.{skipped}
use Rattle.tags.specs.Values.{value_at}
use Rattle.profile.specs.declared.Field.TheVariants.{TxId}
use Rattle.profile.specs.declared.Version.{Version}
use Rattle.profile.specs.Fields.{same_field}
use Rattle.profile.specs.Limits.{most_bytes, most_items}
use Rattle.profile.specs.Profile.{profile}
use Rattle.reading.specs.Trace.{What, item_begins, item_ends, there, absent, value, Entry, Trace, met, up_to, fault, and_then, trace, Opened, from, faulty, opened, behind_all, inside, message}
use Rattle.reading.specs.Noted.{Reading, on, stop}
use Rattle.reading.specs.Rules.{begun, items_in, of_field, values_at, rules, own_kind, fitting}
use Rattle.reading.specs.Judged.{whats, or_refused}
use Rattle.reading.proofs.Lists.{whats_append, items_append, at_append}
use Rattle.reading.proofs.Flat.{flat, same_end}
use Rattle.reading.proofs.Each.{AllIn}
use Rattle.reading.proofs.More.{without, lenient, read_then, read_on, Lying as Id, lying_at, ids_of}
use Rattle.items.proofs.Room.{an_id, ids_fair, ids_none, paid, Leaves, within, leaves_trace}
use Rattle.items.proofs.Places.{LiesIn, Lying, all_lying}

-- ---- one entry that passes
module _ (e : Entry) (es us : List Entry) (q : lenient e es ≡ on us) where
  pub one_more : us ≡ es ++ (e ∷ [])
  one_more = go (fitting (own_kind e.what) (in_order (without 24 (rules (whats es) e.what)) yes)) q
    where
      go : (g : Given) → or_refused g e.place (es ++ (e ∷ [])) ≡ on us → us ≡ es ++ (e ∷ [])
      go yes z = sym (same_end (es ++ (e ∷ [])) us z)
      go (worth n) z = sym (same_end (es ++ (e ∷ [])) us z)
      go (no n) z = never (cc)

  said : whats us ≡ whats es ++ (e.what ∷ [])
  said = ap whats one_more ∙ whats_append es (e ∷ [])

  -- one item more at most, and no item 10,001
  pub still_few : items_in (whats es) ≤ most_items → items_in (whats us) ≤ most_items
  still_few h = go e.what refl
    where
      counts : items_in (whats us) ≡ items_in (whats es) + begun e.what
      counts = omega (arith, ap items_in said, items_append (whats es) (e.what ∷ []))

      below : (b : Bool) (u : List Entry) → ltb (items_in (whats es)) most_items ≡ b → or_refused (in_order (b else 12 ∷ []) yes) e.place u ≡ on us → items_in (whats es) + 1 ≤ most_items
      below true u z y = omega (arith, ltb-true (items_in (whats es)) most_items z)
      below false u z y = never (cc)

      go : (w : What) → e.what ≡ w → items_in (whats us) ≤ most_items
      go item_begins z = omega (arith, counts, ap begun z, below (ltb (items_in (whats es)) most_items) _ refl (rw z at q))
      go item_ends z = omega (arith, counts, ap begun z, h)
      go (there n) z = omega (arith, counts, ap begun z, h)
      go (absent n) z = omega (arith, counts, ap begun z, h)
      go (value k f v) z = omega (arith, counts, ap begun z, h)

-- ---- TxIds keep up with items: each weighs as much as an item's most
abbrev weight : List Entry → ℕ
weight es = length (values_at TxId (whats es)) * most an_item

abbrev count : List Entry → ℕ
count es = items_in (whats es)

pub step : (e : Entry) (es us : List Entry) → lenient e es ≡ on us → (weight us ≤ weight es + paid an_id e.what * most an_item) × (count us ≡ count es + begun e.what)
step e es us q = (omega (arith, many, own e.what), omega (arith, ap items_in (said e es us q), items_append (whats es) (e.what ∷ [])))
  where
    many : length (values_at TxId (whats us)) ≡ length (values_at TxId (whats es)) + length (of_field TxId e.what ++ [])
    many =
        ap (λ (l : List What). length (values_at TxId l)) (said e es us q)
        ∙ (ap length (at_append TxId (whats es) (e.what ∷ [])) ∙ length-append (values_at TxId (whats es)) (of_field TxId e.what ++ []))

    own : (w : What) → length (of_field TxId w ++ []) ≡ paid an_id w
    own item_begins = refl
    own item_ends = refl
    own (there n) = refl
    own (absent n) = refl
    own (value k f v) = go (same_field f TxId)
      where
        go : (b : Bool) → length (pick b (v ∷ []) [] ++ []) ≡ pick b 1 0
        go true = refl
        go false = refl

-- what stands in a message has room for its TxIds
abbrev pub Fair : Trace → List Entry → Type 0
Fair = Leaves an_id lenient weight count step 0

pub trace_fair : (m : List ℕ) (v : Version) (p : ℕ) → Fair (trace (profile v) m p) []
trace_fair m v p = leaves_trace an_id lenient weight count step m (profile v) (ids_fair v) 0 p [] (omega (arith, ids_none v))

-- so there are at most 10,000 TxIds, read so far
pub few_ids : (t : Trace) (es : List Entry) → Fair t es → items_in (whats es) ≤ most_items → length (values_at TxId (whats es)) ≤ most_items
few_ids t es h f = omega (arith, within an_id lenient weight count step 0 t es h, f)

-- ---- what is read is of what stands there
all_more : {A : Type 0} (P : A → Type 0) (a b : List A) → AllIn P a → AllIn P b → AllIn P (a ++ b)
all_more P [] b h k = k
all_more P (x ∷ a) b h k = (h.0, all_more P a b h.1 k)

read_in_lem : (P : Entry → Type 0) (t : Trace) (es : List Entry) → AllIn P es → AllIn P (flat t) → AllIn P (read_on t es)
read_in_lem P (up_to p) es h k = h
read_in_lem P (fault n q) es h k = h
read_in_lem P (met e t) es h k =
    go (λ u z. read_in_lem P t u z k.1) (fitting (own_kind e.what) (in_order (without 24 (rules (whats es) e.what)) yes))
  where
    more : AllIn P (es ++ (e ∷ []))
    more = all_more P es (e ∷ []) h (k.0, tt)

    go : ((u : List Entry) → AllIn P u → AllIn P (read_on t u)) → (g : Given) → AllIn P (read_then (or_refused g e.place (es ++ (e ∷ []))) es (read_on t))
    go f yes = f (es ++ (e ∷ [])) more
    go f (worth n) = f (es ++ (e ∷ [])) more
    go f (no n) = h

-- a TxId lies where it says, behind a tag
abbrev pub Lies : List ℕ → Id → Type 0
Lies m x = (value_at m x.place ≡ x.bytes) × (1 ≤ x.place)

ids_in_lem : (m : List ℕ) (es : List Entry) → AllIn (Lying m) es → AllIn (Lies m) (ids_of es)
ids_in_lem m [] h = tt
ids_in_lem m (e ∷ l) h = all_more (Lies m) (lying_at e.place (of_field TxId e.what)) (ids_of l) (own e.what h.0) (ids_in_lem m l h.1)
  where
    own : (w : What) → LiesIn m w e.place → AllIn (Lies m) (lying_at e.place (of_field TxId w))
    own item_begins z = tt
    own item_ends z = tt
    own (there n) z = tt
    own (absent n) z = tt
    own (value k f v) z = go (same_field f TxId)
      where
        go : (b : Bool) → AllIn (Lies m) (lying_at e.place (pick b (v ∷ []) []))
        go true = (z, tt)
        go false = tt

-- behind the end of the root nothing is noted
pub read_then_lem : (t : Trace) (g : ℕ → Trace) → ((p : ℕ) (es : List Entry) → read_on (g p) es ≡ es) → (es : List Entry) → read_on (and_then t g) es ≡ read_on t es
read_then_lem (up_to p) g h es = h p es
read_then_lem (fault n q) g h es = refl
read_then_lem (met e t) g h es = go (read_then_lem t g h) (lenient e es)
  where
    go : ((u : List Entry) → read_on (and_then t g) u ≡ read_on t u) → (x : Reading (List Entry)) → read_then x es (read_on (and_then t g)) ≡ read_then x es (read_on t)
    go f (on u) = f u
    go f (stop n p) = refl

pub read_behind : (m : List ℕ) (p : ℕ) (es : List Entry) → read_on (behind_all m p) es ≡ es
unfolding behind_all
read_behind m p es = go (ltb (skipped m p) (length m))
  where
    go : (b : Bool) → read_on (pick b (fault 16 (skipped m p)) (up_to (skipped m p))) es ≡ es
    go true = refl
    go false = refl

pub ids_lie : (m : List ℕ) → AllIn (Lies m) (ids_of (read_on (message m) []))
unfolding message
ids_lie m = go (ltb most_bytes (length m)) (opened m)
  where
    go : (b : Bool) (o : Opened) → AllIn (Lies m) (ids_of (read_on (pick b (fault 1 0) (inside m o)) []))
    go true o = tt
    go false (faulty n q) = tt
    go false (from v p) =
        rw (read_then_lem (trace (profile v) m p) (behind_all m) (read_behind m) [])
        (ids_in_lem m (read_on (trace (profile v) m p) []) (read_in_lem (Lying m) (trace (profile v) m p) [] tt (all_lying m (profile v) p)))
