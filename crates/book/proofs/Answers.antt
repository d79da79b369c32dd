-- What each function answers.
use mathlib.Core.Path.{◌≡◌, refl, ap, sym, ◌∙◌}
use mathlib.Core.Bool.{Bool, true, false, not}
use mathlib.Core.List.{List, ◌++◌}
use mathlib.Core.Logic.{◌≢◌}
use Prim.Native.Nat.{ℕ, ◌+◌, ◌-◌, ◌≤◌, ◌<◌}
use native.Mathlib.Omega.{arith}
use borrow.Author.Tests.{le-leb, lt-leb, leb-true, ne_eqb, eq-eqb}
use lib.Dec.{leb, eqb}
use lib.ListN.{length, take, drop, get_or}
use lib.Seq.{get_or-take, length-take-le}
use Rattle.std.proofs.Common.{Some, None, Result, Ok, Err}
use Rattle.std.specs.List.{copy_within}
use Rattle.std.specs.Option.{ok_or}
use Rattle.text.specs.Truth.{both, pick}
use Rattle.text.proofs.Truths.{never, both_false, fails, passes, pass, lastly}
use Rattle.answers.specs.declared.Refused.{Refused}
use Rattle.answers.specs.declared.Refusal.TheVariants.{NoBook}
use Rattle.money.specs.declared.Range.TheVariants.{Total}
use Rattle.money.specs.Amount.{most}
use Rattle.book.specs.declared.Entry.{Entry}
use Rattle.book.specs.declared.Numbers.{Numbers}
use Rattle.book.specs.Book.{Key, Book, most_open, two_equal, sum_of, is_book, open_in, open_total, without, cents_of}
use Rattle.book.specs.Calls.{done, refusal, unchanged, Bulk, enters, entered, withdraws, withdrawn, Call, enter, withdraw, called, asked}
use Rattle.book.specs.Stored.{Stored, agrees, as_lent, carried, kept, stands}
use Rattle.book.specs.Code.{told_as, place_in, capped, book_of, lent, leaves, sum_is}
use Rattle.book.proofs.Lists.{found, cents_at, cents_within, first_out, closed_up}

-- ---- no book: 29, whatever the call
none_called : (c : Call) (b : Book) → is_book b ≡ false → called c b ≡ unchanged 29 0 b
unfolding entered withdrawn
none_called (enter x) b e = rw e
none_called (withdraw k) b e = rw e

-- or another total than summing gives
pub none_kept : (c : Call) (s : Stored) → stands s ≡ false → kept c s ≡ as_lent 29 0 s
unfolding kept
none_kept c s = go (is_book s.book) (agrees s) refl
  where
    go : (i a : Bool) → is_book s.book ≡ i → both i a ≡ false → pick a (carried c s.total (called c s.book)) (as_lent 29 0 s) ≡ as_lent 29 0 s
    go i false z e = refl
    go true true z e = never (cc)
    go false true z e = rw (none_called c s.book z)

-- ---- what a book is known by
pub record Known (b : Book) : Type 0 where
  pub room : most_open ≤ length b.entries
  pub few : b.number ≤ most_open
  pub different : two_equal (open_in b) ≡ false
  pub within : open_total b ≤ most Total

pub known : (b : Book) → is_book b ≡ true → Known b
unfolding is_book
known b e =
    record {
      room = leb-true most_open (length b.entries) (passes _ e 0);
      few = leb-true b.number most_open (passes _ e 1);
      different = not-true-of (two_equal (open_in b)) (passes _ e 2);
      within = leb-true (open_total b) (most Total) (passes _ e 3);
    }
  where
    not-true-of : (t : Bool) → not t ≡ true → t ≡ false
    not-true-of true h = never (cc)
    not-true-of false h = refl

module _ (l : List Entry) (n : ℕ) where
  -- ---- what is asked of a list, by each test in turn
  not_asked : is_book (book_of l n) ≡ false → refusal 29 0 ≡ asked (book_of l n)
  unfolding asked
  not_asked e = rw e

  pub few_asked : length l < most_open → refusal 29 0 ≡ asked (book_of l n)
  unfolding is_book
  few_asked h = not_asked (fails _ 0 (lt-leb most_open (length l) h))

  pub many_asked : most_open < n → refusal 29 0 ≡ asked (book_of l n)
  unfolding is_book
  many_asked h = not_asked (fails _ 1 (lt-leb n most_open h))

  pub equal_asked : two_equal (take n l) ≡ true → refusal 29 0 ≡ asked (book_of l n)
  unfolding is_book
  equal_asked e = not_asked (fails _ 2 (ap not e))

  pub sum_asked : most_open ≤ length l → n ≤ most_open → two_equal (take n l) ≡ false → (r : Refused) → r ≡ record { why = NoBook; at = 0 }
      → told_as (ok_or (capped (sum_of (take n l))) r) ≡ asked (book_of l n)
  unfolding is_book asked
  sum_asked h g e r f =
      rw (pass _ _ _ (le-leb most_open (length l) h) (pass _ _ _ (le-leb n most_open g) (pass _ _ _ (ap not e) (lastly _ (leb (sum_of (take n l)) (most Total)) refl))), f)
      (go (leb (sum_of (take n l)) (most Total)))
    where
      go : (b : Bool) → told_as (ok_or (pick b (Some (sum_of (take n l))) None) (record { why = NoBook; at = 0 })) ≡ pick b (done (sum_of (take n l))) (refusal 29 0)
      go true = refl
      go false = refl

  -- ---- what an answer tells: a sum is that of a book
  pub record Sums (t : ℕ) : Type 0 where
    pub one : is_book (book_of l n) ≡ true
    pub sum : t ≡ sum_of (take n l)

  pub sums : (t : ℕ) → done t ≡ asked (book_of l n) → Sums t
  unfolding asked
  sums t = go (is_book (book_of l n)) refl
    where
      go : (b : Bool) → is_book (book_of l n) ≡ b → done t ≡ pick b (done (sum_of (take n l))) (refusal 29 0) → Sums t
      go true e h = record { one = e; sum = cc }
      go false e h = never (cc)

-- a checked book, and whether its sum is what is stored
pub sum_stands : (r : Result ℕ Refused) (s : Stored) → told_as r ≡ asked s.book → sum_is r s.total ≡ stands s
unfolding asked
sum_stands r s = go r (is_book s.book)
  where
    go : (r : Result ℕ Refused) (i : Bool) → told_as r ≡ pick i (done (sum_of (take s.book.number s.book.entries))) (refusal 29 0) → sum_is r s.total ≡ both i (agrees s)
    go (Ok t) true h =
        let z : t ≡ sum_of (take s.book.number s.book.entries) = cc in
        rw z
    go (Ok t) false h = never (cc)
    go (Err r) true h = never (cc)
    go (Err r) false h = refl

-- ---- any call
module _ (l : List Entry) (s : Numbers) (c : Call) where
  pub err_kept : (r : Refused) → told_as (Err r) ≡ asked (book_of l s.opened) → leaves (Err r) l s ≡ kept c (lent l s)
  unfolding asked
  err_kept r = go (is_book (book_of l s.opened)) refl
    where
      go : (b : Bool) → is_book (book_of l s.opened) ≡ b → told_as (Err r) ≡ pick b (done (sum_of (take s.opened l))) (refusal 29 0) → leaves (Err r) l s ≡ kept c (lent l s)
      go true e h = never (cc)
      go false e h = rw (none_kept c (lent l s) (rw e), h)

  pub other_kept : (t : ℕ) → Sums l s.opened t → t ≢ s.total → as_lent 29 0 (lent l s) ≡ kept c (lent l s)
  other_kept t i h =
      let z : eqb s.total (sum_of (take s.opened l)) ≡ false = ne_eqb _ _ (λ e. h (i.sum ∙ sym e)) in
      sym (none_kept c (lent l s) (rw z (both_false (is_book (book_of l s.opened)))))

-- ---- a call on a book with what summing gives
module _ (l : List Entry) (s : Numbers) where
  pub stored_sums : (t : ℕ) → t ≡ s.total → Sums l s.opened t → Sums l s.opened s.total
  stored_sums t e i = record { one = i.one; sum = sym e ∙ i.sum }

  module _ (i : Sums l s.opened s.total) where
    pub enter_kept : (x : Bulk) → carried (enter x) s.total (enters x (book_of l s.opened)) ≡ kept (enter x) (lent l s)
    unfolding kept entered
    enter_kept x = rw (eq-eqb s.total (sum_of (take s.opened l)) i.sum, i.one)

    pub withdraw_kept : (k : Key) → carried (withdraw k) s.total (withdraws k (book_of l s.opened)) ≡ kept (withdraw k) (lent l s)
    unfolding kept withdrawn
    withdraw_kept k = rw (eq-eqb s.total (sum_of (take s.opened l)) i.sum, i.one)

-- ---- a withdrawal
module _ (l : List Entry) (n t : ℕ) (h : n ≤ length l) (k : Key) (i : ℕ) (e : place_in k (take n l) ≡ Some i) where
  pub found_below : i < n
  found_below = omega (arith, (found k (take n l) i e).2, length-take-le n l h)

  cents-found : (d : Entry) → (get_or l i d).cents ≡ cents_of k (take n l)
  cents-found d =
      let f = found k (take n l) i e in
      rw (sym (get_or-take n l i d found_below), f.1) (cents_at k (take n l) d (omega arith))

  pub less_fits : (d : Entry) → t ≡ sum_of (take n l) → (get_or l i d).cents ≤ t
  less_fits d f = omega (arith, cents-found d, cents_within k (take n l))

  pub gone : (d : Entry) (r : List Entry) → r ≡ copy_within l (i + 1) n i
      → leaves (Ok (get_or l i d).cents) r (record { opened = n - 1; total = t - (get_or l i d).cents }) ≡ carried (withdraw k) t (withdraws k (book_of l n))
  gone d r f =
      let g = found k (take n l) i e in
      let z : copy_within l (i + 1) n i ≡ without k (take n l) ++ drop (n - 1) l = closed_up i n l found_below h ∙ ap (λ (m : List Entry). m ++ drop (n - 1) l) (rw g.1 (first_out k (take n l))) in
      rw (cents-found d, f, z, g.0)
