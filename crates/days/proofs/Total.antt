-- After any calls the open total is the sum of all accepted entries less the sum of all accepted withdrawals.
use mathlib.Core.Path.{◌≡◌, refl, ap}
use mathlib.Core.Bool.{Bool, true, false}
use mathlib.Core.List.{List, [], ◌∷◌, ◌++◌}
use Prim.Native.Nat.{ℕ, ◌+◌, ◌-◌, ◌≤◌, ◌<◌}
use native.Mathlib.Omega.{arith}
use borrow.Author.Tests.{leb-false}
use lib.Dec.{leb}
use Rattle.text.specs.Truth.{pick}
use Rattle.book.specs.declared.Entry.{Entry}
use Rattle.book.specs.Book.{Key, Book, most_open, open_in, is_open, sum_of, open_total, is_book, cents_of}
use Rattle.book.specs.Calls.{Told, done, Outcome, unchanged, Bulk, bulk, unfit, added, enters, entered, lessened, withdraws, withdrawn, Call, enter, withdraw, called}
use Rattle.days.specs.Day.{empty, after, if_done, entered_by, withdrawn_by, all_entered, all_withdrawn}
use Rattle.book.proofs.Answers.{Known, known}
use Rattle.days.proofs.Open.{open_added, open_lessened, sum_more, sum_less}

-- what a call does to the open total
abbrev pub Counts : (Told → ℕ) → (Told → ℕ) → Book → Outcome → Type 0
Counts e w b o = open_total o.book + w o.told ≡ open_total b + e o.told

enters_counts : (b : Book) (x : Bulk) → Known b → Counts if_done (λ t. 0) b (enters x b)
enters_counts b (unfit n p) k = refl
enters_counts b (bulk e) k = go (is_open e.key (open_in b)) (leb most_open b.number) refl
  where
    go : (s t : Bool) → leb most_open b.number ≡ t → Counts if_done (λ t. 0) b (pick s (unchanged 20 0 b) (pick t (unchanged 21 0 b) (record { told = done e.cents; book = added e b })))
    go true t z = refl
    go false true z = refl
    go false false z =
        let h : b.number < most_open = leb-false most_open b.number z in
        let y : open_in (added e b) ≡ open_in b ++ (e ∷ []) = open_added e b (omega (arith, k.room)) in
        omega (arith, ap sum_of y, sum_more (open_in b) e)

withdraws_counts : (b : Book) (k : Key) → Known b → Counts (λ t. 0) if_done b (withdraws k b)
withdraws_counts b k n = go (is_open k (open_in b)) refl
  where
    go : (s : Bool) → is_open k (open_in b) ≡ s → Counts (λ t. 0) if_done b (pick s (record { told = done (cents_of k (open_in b)); book = lessened k b }) (unchanged 22 0 b))
    go true e = omega (arith, ap sum_of (open_lessened k b (omega (arith, n.room, n.few)) e), sum_less k (open_in b) e)
    go false e = refl

pub counts : (c : Call) (b : Book) → open_total (called c b).book + withdrawn_by c (called c b).told ≡ open_total b + entered_by c (called c b).told
unfolding entered withdrawn
counts (enter x) b = go (is_book b) refl
  where
    go : (s : Bool) → is_book b ≡ s → Counts if_done (λ t. 0) b (pick s (enters x b) (unchanged 29 0 b))
    go true e = enters_counts b x (known b e)
    go false e = refl
counts (withdraw k) b = go (is_book b) refl
  where
    go : (s : Bool) → is_book b ≡ s → Counts (λ t. 0) if_done b (pick s (withdraws k b) (unchanged 29 0 b))
    go true e = withdraws_counts b k (known b e)
    go false e = refl

-- whatever the book: what is open afterwards and what was withdrawn are what was open before and what was entered
pub balanced : (l : List Call) (b : Book) → open_total (after l b) + all_withdrawn l b ≡ open_total b + all_entered l b
balanced [] b = refl
balanced (c ∷ l) b = omega (arith, balanced l (called c b).book, counts c b)

-- **After any calls from an empty book the open total is the sum of all accepted entries less the sum of all accepted withdrawals.**
pub day_total : (l : List Call) (ys : List Entry) → open_total (after l (empty ys)) ≡ all_entered l (empty ys) - all_withdrawn l (empty ys)
day_total l ys = omega (arith, balanced l (empty ys))

-- and no more is withdrawn than was entered
pub day_covered : (l : List Call) (ys : List Entry) → all_withdrawn l (empty ys) ≤ all_entered l (empty ys)
day_covered l ys = omega (arith, balanced l (empty ys))
