-- What a call of the day book comes to: it is carried out, or it is refused, and the book is as lent.
use mathlib.Core.Path.{◌≡◌, refl}
use mathlib.Core.Bool.{Bool, true, false}
use Prim.Native.Nat.{ℕ, ◌+◌, ◌-◌, ◌≤◌, ◌<◌}
use borrow.Author.Tests.{leb-true, leb-false}
use lib.Dec.{leb}
use Rattle.text.specs.Truth.{pick}
use Rattle.text.proofs.Truths.{passes}
use Rattle.money.specs.declared.Range.TheVariants.{Total}
use Rattle.money.specs.Amount.{most}
use Rattle.book.specs.declared.Entry.{Entry}
use Rattle.book.specs.Book.{Key, most_open, open_in, is_open, is_book, cents_of}
use Rattle.book.specs.Calls.{done, unchanged, bulk, unfit, added, entered, lessened, withdrawn, enter, withdraw}
use Rattle.book.specs.Stored.{Stored, agrees, Carried, as_lent, carried, kept}
use Rattle.book.specs.Code.{in_range}

-- ---- an entry
pub data Entering (e : Entry) (s : Stored) : Carried → Type 0 where
  goes_in : s.book.number < most_open
      → Entering e s (record { told = done e.cents; stored = record { book = added e s.book; total = s.total + e.cents } })
  stays_out : (n p : ℕ) → Entering e s (as_lent n p s)

module _ (e : Entry) (s : Stored) where
  of-bulk : Entering e s (kept (enter (bulk e)) s)
  unfolding kept entered
  of-bulk = go (agrees s) (is_book s.book) (is_open e.key (open_in s.book)) (leb most_open s.book.number) refl
    where
      go : (a i o f : Bool) → leb most_open s.book.number ≡ f
          → Entering e s (pick a (carried (enter (bulk e)) s.total (pick i (pick o (unchanged 20 0 s.book) (pick f (unchanged 21 0 s.book) (record {
            told = done e.cents;
            book = added e s.book;
          }))) (unchanged 29 0 s.book))) (as_lent 29 0 s))
      go false i o f h = stays_out 29 0
      go true false o f h = stays_out 29 0
      go true true true f h = stays_out 20 0
      go true true false true h = stays_out 21 0
      go true true false false h = goes_in (leb-false most_open s.book.number h)

  of_none : (n p : ℕ) → Entering e s (kept (enter (unfit n p)) s)
  unfolding kept entered
  of_none n p = go (agrees s) (is_book s.book)
    where
      go : (a i : Bool) → Entering e s (pick a (carried (enter (unfit n p)) s.total (pick i (unchanged n p s.book) (unchanged 29 0 s.book))) (as_lent 29 0 s))
      go false i = stays_out 29 0
      go true false = stays_out 29 0
      go true true = stays_out n p

  pub entering_is : Entering e s (kept (enter (in_range e)) s)
  entering_is = go (leb e.cents (most Total))
    where
      go : (b : Bool) → Entering e s (kept (enter (pick b (bulk e) (unfit 9 0))) s)
      go true = of-bulk
      go false = of_none 9 0

-- ---- a withdrawal
pub data Leaving (k : Key) (s : Stored) : Carried → Type 0 where
  goes_out : s.book.number ≤ most_open → is_open k (open_in s.book) ≡ true
      → Leaving k s (record { told = done (cents_of k (open_in s.book)); stored = record { book = lessened k s.book; total = s.total - cents_of k (open_in s.book) } })
  stays_in : (n p : ℕ) → Leaving k s (as_lent n p s)

module _ (k : Key) (s : Stored) where
  few : is_book s.book ≡ true → s.book.number ≤ most_open
  unfolding is_book
  few e = leb-true s.book.number most_open (passes _ e 1)

  pub leaving_is : Leaving k s (kept (withdraw k) s)
  unfolding kept withdrawn
  leaving_is = go (agrees s) (is_book s.book) refl (is_open k (open_in s.book)) refl
    where
      go : (a i : Bool) → is_book s.book ≡ i → (o : Bool) → is_open k (open_in s.book) ≡ o
          → Leaving k s (pick a (carried (withdraw k) s.total (pick i (pick o (record {
            told = done (cents_of k (open_in s.book));
            book = lessened k s.book;
          }) (unchanged 22 0 s.book)) (unchanged 29 0 s.book))) (as_lent 29 0 s))
      go false i h o g = stays_in 29 0
      go true false h o g = stays_in 29 0
      go true true h false g = stays_in 22 0
      go true true h true g = goes_out (few h) g
