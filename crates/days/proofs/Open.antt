-- The open entries after a call.
use mathlib.Core.Path.{◌≡◌, refl, ap, ◌∙◌}
use mathlib.Core.Bool.{Bool, true, false}
use mathlib.Core.List.{List, [], ◌∷◌, ◌++◌}
use Prim.Native.Nat.{suc, ◌+◌, ◌-◌, ◌≤◌, ◌<◌}
use native.Mathlib.Numerals.{add-one}
use native.Mathlib.Omega.{arith}
use lib.ListN.{length, drop, length-append, length-drop}
use lib.Seq.{take-suc-set, take_at, length-take-le}
use Rattle.text.specs.Truth.{either, pick}
use Rattle.text.proofs.Truths.{never}
use Rattle.book.specs.declared.Entry.{Entry}
use Rattle.book.specs.Book.{Key, Book, open_in, has_key, is_open, sum_of, without, cents_of}
use Rattle.book.specs.Calls.{added, lessened}

-- ---- one entry more: behind the others
pub open_added : (e : Entry) (b : Book) → b.number < length b.entries → open_in (added e b) ≡ open_in b ++ (e ∷ [])
open_added e b h = rw (add-one b.number, take-suc-set b.entries b.number e h)

-- ---- one entry less: the others in their order
without_long : (k : Key) (l : List Entry) → is_open k l ≡ true → suc (length (without k l)) ≡ length l
without_long k [] e = never (cc)
without_long k (x ∷ l) e = go (has_key k x) (without_long k l) e
  where
    go : (t : Bool) → (is_open k l ≡ true → suc (length (without k l)) ≡ length l) → either t (is_open k l) ≡ true → suc (length (pick t l (x ∷ without k l))) ≡ suc (length l)
    go true r h = refl
    go false r h = ap suc (r h)

pub open_lessened : (k : Key) (b : Book) → b.number ≤ length b.entries → is_open k (open_in b) ≡ true → open_in (lessened k b) ≡ without k (open_in b)
open_lessened k b h e =
    let long : suc (length (without k (open_in b))) ≡ b.number = without_long k (open_in b) e ∙ length-take-le b.number b.entries h in
    take_at (without k (open_in b)) (drop (b.number - 1) b.entries) (b.number - 1) (omega arith)

pub length_lessened : (k : Key) (b : Book) → b.number ≤ length b.entries → is_open k (open_in b) ≡ true → length (lessened k b).entries ≡ length b.entries
length_lessened k b h e =
    let long : suc (length (without k (open_in b))) ≡ b.number = without_long k (open_in b) e ∙ length-take-le b.number b.entries h in
    length-append (without k (open_in b)) (drop (b.number - 1) b.entries) ∙ (rw (length-drop (b.number - 1) b.entries) (omega arith))

-- ---- sums
pub sum_more : (l : List Entry) (e : Entry) → sum_of (l ++ (e ∷ [])) ≡ sum_of l + e.cents
sum_more [] e = omega arith
sum_more (x ∷ l) e = omega (arith, sum_more l e)

pub sum_less : (k : Key) (l : List Entry) → is_open k l ≡ true → sum_of (without k l) + cents_of k l ≡ sum_of l
sum_less k [] e = never (cc)
sum_less k (x ∷ l) e = go (has_key k x) (sum_less k l) e
  where
    go : (t : Bool) → (is_open k l ≡ true → sum_of (without k l) + cents_of k l ≡ sum_of l) → either t (is_open k l) ≡ true
        → sum_of (pick t l (x ∷ without k l)) + pick t x.cents (cents_of k l) ≡ x.cents + sum_of l
    go true r h = omega arith
    go false r h = omega (arith, r h)
